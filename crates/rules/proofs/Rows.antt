-- The rows of the table that `least k` is made from, from the row of the last item to that of the first: each holds the cells that `least k` passes through.
use Rattle.std.proofs.Common.{◌≡◌, ℕ, suc, ◌+◌, ◌-◌, ◌<◌, ◌≤◌, min, max, List, [], ◌∷◌, ◌++◌, length, get_or, drop, sym, ap, ◌∙◌, subst, append_assoc, append-nil, arith, length-append, length-drop}
use Rattle.std.proofs.Math.Seq.{get_or-append_seam}
use Rattle.std.proofs.lemmas.List.{drop_more}
use Rattle.rules.specs.Building.{Held, At, AllAt, Makes}
use Rattle.rules.specs.Expanding.{Ready, Filled}
use Rattle.rules.specs.Members.{◌⊆◌}
use Rattle.rules.specs.Terms.{Term, blank, subterms, least_of}
use Rattle.rules.proofs.Cells.{filled_none}
use Rattle.rules.proofs.Inside.{band}
use Rattle.rules.proofs.Making.{adds_then, all_at_place, all_at_length}

-- the row of the items that come after those ahead
pub record RowMade (h h' : Held) (items ahead cells : List ℕ) (k : ℕ) : Type 0 where
  pub done : List ℕ
  pub front : items ≡ ahead ++ done
  pub made : (es : List Term) → AllAt h items es → Filled h h' cells (k - length ahead) k (drop (length ahead) es) (subterms (least_of k es))

-- every item is ahead
pub row_none : {h : Held} (items ahead cells : List ℕ) (k : ℕ) → ahead ≡ items → RowMade h h items ahead cells k
row_none {h} items ahead cells k all = record {
  done = [];
  front = sym all ∙ sym (append-nil ahead);
  made = λ es s.
      let long = ap length all ∙ all_at_length h items es s in
      filled_none cells (k - length ahead) k (drop (length ahead) es) (λ j low from to within. omega (arith, length-drop (length ahead) es));
}

-- the row of one item more
pub row_more : {h h' h'' : Held} (items front ahead before cells : List ℕ) (item k a b : ℕ) → front ≡ ahead ++ (item ∷ []) → 1 ≤ k → k ≤ length items → a ≡ max (k - length ahead) 1 → b ≡ min k (length items - length ahead)
    → ((e : Term) (es us : List Term) → length items - length ahead ≡ suc (length es) → Ready h' before item a b e es us → Filled h' h'' cells a b (e ∷ es) us)
    → RowMade h h' items front before k → RowMade h h'' items ahead cells k
row_more {h} {h'} {h''} items front ahead before cells item k a b last lk mk from to fills r =
    let i = length ahead in
    let size : length front ≡ i + 1 = ap length last ∙ length-append ahead (item ∷ []) in
    let split : items ≡ ahead ++ (item ∷ r.done) = r.front ∙ ap (λ xs. xs ++ r.done) last ∙ append_assoc ahead (item ∷ []) r.done in
    let inside : i < length items = omega (arith, ap length split, length-append ahead (item ∷ r.done)) in
    record {
      done = item ∷ r.done;
      front = split;
      made = λ es s.
          let us = subterms (least_of k es) in
          let long = all_at_length h items es s in
          let e = get_or es i blank in
          let rest = drop (i + 1) es in
          let cut : drop i es ≡ e ∷ rest = drop_more es i blank (omega arith) in
          let f = subst (λ n. Filled h h' before (k - n) k (drop n es) us) size (r.made es s) in
          let here : get_or items i 0 ≡ item = ap (λ xs. get_or xs i 0) split ∙ get_or-append_seam ahead item r.done 0 in
          let ready : Ready h' before item a b e rest us = record {
            first = f.adds.kept item e (subst (λ p. At h p e) here (all_at_place h items es i 0 blank s inside));
            after = λ j low x y within. f.row j low (omega arith) (omega arith) within;
            wanted = λ j x y. subst (λ fs. subterms (least_of j fs) ⊆ us) cut (band k i j es lk (omega arith) (omega arith) (omega arith) (omega arith) (omega arith) (omega arith));
          } in
          let g = fills e rest us (omega (arith, length-drop (i + 1) es)) ready in
          subst (λ fs. Filled h h'' cells (k - i) k fs us) (sym cut) (record { adds = adds_then f.adds g.adds; row = λ j low x y within. g.row j low (omega arith) (omega (arith, length-drop (i + 1) es)) within });
    }

-- the row of all items has the cell of `least k`
pub row_done : {h h' : Held} (items ahead cells : List ℕ) (k : ℕ) → length ahead ≡ 0 → 1 ≤ k → k ≤ length items → RowMade h h' items ahead cells k → (es : List Term) → AllAt h items es → Makes h h' (get_or cells k 0) (least_of k es)
row_done {h} {h'} items ahead cells k none lk mk r es s =
    let all = subst (λ i. Filled h h' cells (k - i) k (drop i es) (subterms (least_of k es))) none (r.made es s) in
    record { adds = all.adds; at = all.row k lk (omega arith) (omega arith) (omega (arith, all_at_length h items es s)) }
