-- One making after another: what was added by both, and what stands at its place all the while.
use Rattle.std.proofs.Common.{◌≡◌, ℕ, zero, suc, ◌<◌, List, [], ◌∷◌, ◌++◌, length, get_or, take, drop, refl, ap, ◌∙◌, le_of_suc-le-suc, not-suc-le-zero}
use Rattle.rules.specs.Building.{Held, At, AllAt, Adds, Makes}
use Rattle.rules.specs.Members.{◌⊆◌}
use Rattle.rules.specs.Terms.{Term, both, subterms}
use Rattle.rules.proofs.Subterms.{both_left, both_right}

pub adds_none : {h : Held} {us : List Term} → Adds h h us
adds_none {h} {us} = record { kept = λ p t a. a; only = λ ts s w. w; room = refl }

pub adds_then : {h h' h'' : Held} {us : List Term} → Adds h h' us → Adds h' h'' us → Adds h h'' us
adds_then {h} {h'} {h''} {us} a b =
    record { kept = λ p t k. b.kept p t (a.kept p t k); only = λ ts s w. b.only ts s (a.only ts s w); room = b.room ∙ a.room }

pub adds_wider : {h h' : Held} {us vs : List Term} → us ⊆ vs → Adds h h' us → Adds h h' vs
adds_wider {h} {h'} {us} {vs} s a =
    record { kept = a.kept; only = λ ts v w. a.only ts (λ x m. v x (s x m)) w; room = a.room }

-- a term that stands somewhere is made by doing nothing
pub makes_standing : {h : Held} (p : ℕ) (t : Term) → At h p t → Makes h h p t
makes_standing {h} p t a = record { adds = adds_none; at = a }

pub makes_adds : {h h' : Held} {p : ℕ} {t : Term} {us : List Term} → subterms t ⊆ us → Makes h h' p t → Adds h h' us
makes_adds {h} {h'} {p} {t} {us} s m = adds_wider s m.adds

pub adds_makes : {h h' h'' : Held} {p : ℕ} {t : Term} → Adds h h' (subterms t) → Makes h' h'' p t → Makes h h'' p t
adds_makes {h} {h'} {h''} {p} {t} a m = record { adds = adds_then a m.adds; at = m.at }

pub makes_then : {h h' h'' : Held} {p q : ℕ} {s t : Term} → subterms s ⊆ subterms t → Makes h h' p s → Makes h' h'' q t → Makes h h'' q t
makes_then {h} {h'} {h''} {p} {q} {s} {t} i m n = adds_makes (makes_adds i m) n

pub all_at_kept : {h h' : Held} {us : List Term} → Adds h h' us → (ps : List ℕ) (ts : List Term) → AllAt h ps ts → AllAt h' ps ts
all_at_kept {h} {h'} {us} a [] [] s = tt
all_at_kept {h} {h'} {us} a [] (t ∷ ts) s = absurd s
all_at_kept {h} {h'} {us} a (p ∷ ps) [] s = absurd s
all_at_kept {h} {h'} {us} a (p ∷ ps) (t ∷ ts) s = (a.kept p t s.0, all_at_kept a ps ts s.1)

pub all_at_length : (h : Held) (ps : List ℕ) (ts : List Term) → AllAt h ps ts → length ps ≡ length ts
all_at_length h [] [] s = refl
all_at_length h [] (t ∷ ts) s = absurd s
all_at_length h (p ∷ ps) [] s = absurd s
all_at_length h (p ∷ ps) (t ∷ ts) s = ap suc (all_at_length h ps ts s.1)

pub all_at_place : (h : Held) (ps : List ℕ) (ts : List Term) (i d : ℕ) (e : Term) → AllAt h ps ts → i < length ps → At h (get_or ps i d) (get_or ts i e)
all_at_place h [] ts i d e s l = absurd (not-suc-le-zero l)
all_at_place h (p ∷ ps) [] i d e s l = absurd s
all_at_place h (p ∷ ps) (t ∷ ts) zero d e s l = s.0
all_at_place h (p ∷ ps) (t ∷ ts) (suc i) d e s l = all_at_place h ps ts i d e s.1 (le_of_suc-le-suc l)

pub all_at_take : (h : Held) (n : ℕ) (ps : List ℕ) (ts : List Term) → AllAt h ps ts → AllAt h (take n ps) (take n ts)
all_at_take h zero ps ts s = tt
all_at_take h (suc n) [] [] s = tt
all_at_take h (suc n) [] (t ∷ ts) s = absurd s
all_at_take h (suc n) (p ∷ ps) [] s = absurd s
all_at_take h (suc n) (p ∷ ps) (t ∷ ts) s = (s.0, all_at_take h n ps ts s.1)

pub all_at_drop : (h : Held) (n : ℕ) (ps : List ℕ) (ts : List Term) → AllAt h ps ts → AllAt h (drop n ps) (drop n ts)
all_at_drop h zero ps ts s = s
all_at_drop h (suc n) [] [] s = tt
all_at_drop h (suc n) [] (t ∷ ts) s = absurd s
all_at_drop h (suc n) (p ∷ ps) [] s = absurd s
all_at_drop h (suc n) (p ∷ ps) (t ∷ ts) s = all_at_drop h n ps ts s.1

pub all_at_push : (h : Held) (ps : List ℕ) (ts : List Term) (p : ℕ) (t : Term) → AllAt h ps ts → At h p t → AllAt h (ps ++ (p ∷ [])) (ts ++ (t ∷ []))
all_at_push h [] [] p t s a = (a, tt)
all_at_push h [] (u ∷ ts) p t s a = absurd s
all_at_push h (q ∷ ps) [] p t s a = absurd s
all_at_push h (q ∷ ps) (u ∷ ts) p t s a = (s.0, all_at_push h ps ts p t s.1 a)

pub both_makes : {h h' h'' h''' : Held} {p q r : ℕ} (s t : Term) → Makes h h' p s → Makes h' h'' q t → Makes h'' h''' r (both s t) → Makes h h''' r (both s t)
both_makes {h} {h'} {h''} {h'''} {p} {q} {r} s t m n o = makes_then (both_left s t) m (makes_then (both_right s t) n o)
