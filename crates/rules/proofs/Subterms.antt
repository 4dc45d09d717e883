-- The terms in a term: equality of terms decided, and what lies in a term lies in every term around it.
use Rattle.std.proofs.Common.{◌≡◌, true, Decides, refl, ap, subst, ap₂, inl, inr, ⊎_elim}
use mathlib.Core.List.{}
use Rattle.interning.proofs.Members.{in_either, in_left, in_right}
use Rattle.std.proofs.lemmas.Bool.{and_parts, and_from, eqb-true, eq-eqb, false≢true}
use Rattle.rules.specs.Terms.{Term, member, both, either, same, subterms}
use Rattle.rules.specs.Members.{◌∈◌, ◌⊆◌}

equal_from_same : (s t : Term) → same s t ≡ true → s ≡ t
equal_from_same (member v) (member w) h = ap member (eqb-true v w h)
equal_from_same (member v) (both u w) h = absurd (false≢true h)
equal_from_same (member v) (either u w) h = absurd (false≢true h)
equal_from_same (both s t) (member w) h = absurd (false≢true h)
equal_from_same (both s t) (both u v) h = let p = and_parts (same s u) (same t v) h in ap₂ both (equal_from_same s u p.0) (equal_from_same t v p.1)
equal_from_same (both s t) (either u v) h = absurd (false≢true h)
equal_from_same (either s t) (member w) h = absurd (false≢true h)
equal_from_same (either s t) (both u v) h = absurd (false≢true h)
equal_from_same (either s t) (either u v) h = let p = and_parts (same s u) (same t v) h in ap₂ either (equal_from_same s u p.0) (equal_from_same t v p.1)

same_itself : (t : Term) → same t t ≡ true
same_itself (member v) = eq-eqb v v refl
same_itself (both s t) = and_from (same s s) (same t t) (same_itself s) (same_itself t)
same_itself (either s t) = and_from (same s s) (same t t) (same_itself s) (same_itself t)

pub same_decides : (s t : Term) → Decides (same s t) (s ≡ t)
same_decides s t = (equal_from_same s t, λ e. subst (λ x. same s x ≡ true) e (same_itself s))

pub subterms_self : (t : Term) → t ∈ subterms t
subterms_self (member v) = inl refl
subterms_self (both s t) = inl refl
subterms_self (either s t) = inl refl

pub subterms_equal : (s t : Term) → s ≡ t → subterms s ⊆ subterms t
subterms_equal s t e = subst (λ x. subterms s ⊆ subterms x) e (λ x m. m)

pub both_left : (s t : Term) → subterms s ⊆ subterms (both s t)
both_left s t x m = inr (in_left (subterms s) (subterms t) x m)

pub both_right : (s t : Term) → subterms t ⊆ subterms (both s t)
both_right s t x m = inr (in_right (subterms s) (subterms t) x m)

pub either_left : (s t : Term) → subterms s ⊆ subterms (either s t)
either_left s t x m = inr (in_left (subterms s) (subterms t) x m)

pub either_right : (s t : Term) → subterms t ⊆ subterms (either s t)
either_right s t x m = inr (in_right (subterms s) (subterms t) x m)

pub subterms_closed : (t u : Term) → t ∈ subterms u → subterms t ⊆ subterms u
subterms_closed t (member v) m = ⊎_elim (λ e. subterms_equal t (member v) e) (λ n. absurd n) m
subterms_closed t (both u v) m = ⊎_elim (λ e. subterms_equal t (both u v) e) (λ n. ⊎_elim (λ l x k. both_left u v x (subterms_closed t u l x k)) (λ r x k. both_right u v x (subterms_closed t v r x k)) (in_either (subterms u) (subterms v) t n)) m
subterms_closed t (either u v) m = ⊎_elim (λ e. subterms_equal t (either u v) e) (λ n. ⊎_elim (λ l x k. either_left u v x (subterms_closed t u l x k)) (λ r x k. either_right u v x (subterms_closed t v r x k)) (in_either (subterms u) (subterms v) t n)) m
