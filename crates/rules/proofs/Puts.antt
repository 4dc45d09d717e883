-- A term that is interned is made: it stands at its place, and where it found none there are too many terms.
use Rattle.std.proofs.Common.{◌≡◌, ℕ, true, false, List, [], ◌∷◌, sym, ◌∙◌, subst, ⊎_elim, arith}
use Rattle.std.proofs.lemmas.Bool.{true≢false, false≢true}
use Rattle.interning.specs.Interned.{Placed, Refused, Appended}
use Rattle.interning.specs.Places.{Apart, Kept}
use Rattle.interning.proofs.Distinct.{counted}
use Rattle.rules.specs.declared.terms.TermKey.TheVariants.{Both, Either}
use Rattle.rules.specs.Building.{Held, At, KeyOf, Within, Makes}
use Rattle.rules.specs.Members.{◌∈◌, ◌⊆◌}
use Rattle.rules.specs.Terms.{Term, both, either, blank, subterms}
use Rattle.interning.proofs.Members.{absent_not_in, apart_once, in_either}
use Rattle.rules.proofs.Subterms.{same_decides, subterms_self}

-- the keys of two terms that stand at their places
pub both_key : (h : Held) (a b : ℕ) (s t : Term) → At h a s → At h b t → KeyOf h (Both a b) (both s t)
both_key h a b s t x y off = (((x off).within, (y off).within), λ i. both ((x off).here blank i) ((y off).here blank i))

pub either_key : (h : Held) (a b : ℕ) (s t : Term) → At h a s → At h b t → KeyOf h (Either a b) (either s t)
either_key h a b s t x y off = (((x off).within, (y off).within), λ i. either ((x off).here blank i) ((y off).here blank i))

module _ (h h' : Held) (t : Term) (off : h.over ≡ false) (same : h'.room ≡ h.room) where
  kept_at : Kept h.terms h'.terms → (p : ℕ) (u : Term) → At h p u → At h' p u
  kept_at kept p u at _ =
      let s = at off in
      record { within = omega (arith, s.within, kept.longer); here = λ d. kept.same p d s.within ∙ s.here d }

  placed_within : (i : ℕ) → h'.over ≡ false → Placed h.room h.terms t i h'.terms → (us : List Term) → subterms t ⊆ us → Within h us → Within h' us
  placed_within i off' placed us sub within = record {
    inside = ⊎_elim (λ (e : h'.terms ≡ h.terms). subst (λ xs. xs ⊆ us) (sym e) within.inside)
        (λ (a : Appended h.room h.terms t i h'.terms). subst (λ xs. xs ⊆ us) (sym a.more) (λ u m.
        ⊎_elim (λ l. within.inside u l) (⊎_elim (λ e. sub u (subst (λ x. x ∈ subterms t) (sym e) (subterms_self t))) (λ n. absurd n)) (in_either h.terms (t ∷ []) u m)))
        placed.change;
    over = λ o. absurd (false≢true (sym off' ∙ o));
  }

  pub makes_placed : (i : ℕ) → h'.over ≡ false → Placed h.room h.terms t i h'.terms → Makes h h' i t
  makes_placed i off' placed = record {
    adds = record { kept = kept_at placed.kept; only = placed_within i off' placed; room = same };
    at = λ _. placed.stands;
  }

  pub makes_refused : (i : ℕ) → h'.over ≡ true → Apart h.terms → Refused h.room h.terms t h'.terms → Makes h h' i t
  makes_refused i over apart refused = record {
    adds = record {
      kept = λ p u at o. absurd (true≢false (sym over ∙ o));
      only = λ us sub within. record {
        inside = subst (λ xs. xs ⊆ us) (sym refused.same) within.inside;
        over = λ _.
            let more = (counted same_decides h.terms us (apart_once h.terms apart) within.inside).lacks t (sub t (subterms_self t)) (absent_not_in h.terms t refused.absent) in
            omega (arith, refused.full);
      };
      room = same;
    };
    at = λ o. absurd (true≢false (sym over ∙ o));
  }
