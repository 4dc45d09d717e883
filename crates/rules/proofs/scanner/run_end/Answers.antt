use Rattle.std.proofs.Common.{◌≡◌, ℕ, ◌+◌, ◌-◌, ◌≤◌, Bool, List, length, get_or, drop, sym, ap, ◌∙◌, subst, arith, rules}
use Rattle.std.proofs.lemmas.Iterator.{YieldsList-from_slice}
use Rattle.std.proofs.lemmas.Iterator.Consumers.{count_from_yields_List}
use Rattle.std.proofs.lemmas.Iterator.Search.{YieldsList-from_take_while}
use Rattle.std.proofs.lemmas.List.{take_rest, get_or-drop, length-drop}
use Rattle.std.proofs.lemmas.List.Folds.{length-prefix_len}
use Rattle.std.proofs.lemmas.List.Sums.{prefix_len-le-length, prefix_len_passes, prefix_len_stops}
use Rattle.std.specs.List.{prefix_len}
use Rattle.std.specs.Slice.Iter.{iter_rest}
use denote.Enum.Bare.{sameb, same_true, same_false}
use Rattle.rules.specs.declared.classes.Class.{Class}
use Rattle.rules.specs.contracts.classes.Class.{the_type}
use Rattle.rules.specs.Classes.{class}
use Rattle.rules.specs.Scanning.{OneClass}
use Rattle.rules.proofs.scanner.run_end.Goals as goal

-- a byte is of a class
abbrev of : Class → ℕ → Bool
of k b = sameb the_type (class b) k

-- the bytes of a class that the text begins with from a place on
one_class : (text : List ℕ) (k : Class) (from : ℕ) → from ≤ length text → OneClass text k from (from + prefix_len (of k) (drop from text))
one_class text k from h =
    let ys = drop from text in
    let size = length-drop from text in
    let most = prefix_len-le-length (of k) ys in
    record {
      onward = omega arith;
      within = omega arith;
      all = λ i low high.
          let back : from + (i - from) ≡ i = omega arith in
          same_true the_type (search rules) _ _ (ap (λ j. of k (get_or text j 0)) (sym back) ∙ ap (of k) (sym (get_or-drop from text (i - from) 0)) ∙ prefix_len_passes (of k) ys (i - from) 0 (omega arith));
      stops = λ inside.
          same_false the_type _ _ (ap (of k) (sym (get_or-drop from text (prefix_len (of k) ys) 0)) ∙ prefix_len_stops (of k) ys 0 (omega arith));
    }

pub returns : goal.returns
returns c =
    let text = c.args.text.now in
    let ys = drop c.args.from text in
    let test = of c.args.class in
    let all = ap iter_rest c.take_while.ensures.source ∙ c.iter.ensures.rest ∙ take_rest text c.args.from in
    let count : c.count-run.result ≡ prefix_len test ys = count_from_yields_List c.take_while.result _ c.count-run.ensures.ran (YieldsList-from_take_while _ test (YieldsList-from_slice ys all) c.take_while.ensures.closure c.take_while.ensures.done (λ x b q k. search rules)) ∙ length-prefix_len test ys in
    subst (λ n. OneClass text c.args.class c.args.from (c.args.from + n)) (sym count) (one_class text c.args.class c.args.from c.requires)
