use Rattle.std.proofs.Common.{ℕ, true, List, length, Ok, Err, Result, sym, refl, subst}
use Rattle.interning.specs.declared.interner.Full.{Full}
use Rattle.interning.specs.Decode.{decode, Rooted}
use Rattle.interning.specs.Interned.{Interned}
use Rattle.interning.specs.Model.{held, capacity}
use Rattle.interning.proofs.Decode.{decode_interned, length_decode}
use Rattle.interning.proofs.Sound.{held_apart}
use Rattle.rules.specs.declared.terms.TermKey.{TermKey}
use Rattle.rules.specs.declared.terms.TermMemory.{TermMemory}
use Rattle.rules.specs.Building.{Held, Makes}
use Rattle.rules.specs.Memory.{view}
use Rattle.rules.specs.TermKeys.{NamesBelow, tree}
use Rattle.rules.proofs.Memories.{memory_apart}
use Rattle.rules.proofs.Puts.{makes_placed, makes_refused}
use Rattle.rules.proofs.TermTrees.{readable, rooted_out, rooted_placed}
use Rattle.rules.proofs.terms.TermMemory.put.Goals as goal

module _ (m : TermMemory) where
  -- a key that names held terms alone names places below the number of keys
  below : (k : TermKey) → NamesBelow (length (view m).terms) k → NamesBelow (length (held m.interner)) k
  below k = subst (λ n. NamesBelow n k) (length_decode tree (held m.interner))

  -- to intern a key is to intern its term
  lifted : (k : TermKey) (r : Result ℕ Full) (ks : List TermKey) → NamesBelow (length (view m).terms) k → Interned (capacity m.interner) (held m.interner) k r ks → Interned (capacity m.interner) (view m).terms (tree (view m).terms k) r (decode tree ks)
  lifted k r ks names interned =
      decode_interned readable (held m.interner) k (rooted_out _ m.rooted) (held_apart m.interner) (below k names) _ r ks interned

pub invariant_of-self : goal.invariant_of-self
invariant_of-self c =
    let m = c.args.self.now in
    record {
      rooted = rooted_placed _ _ _ _ _ m.rooted (below m _ (c.if-not-names.ensures.0 refl)) c.in-Ok.ensures.interned;
    }

pub invariant_of-self-in-Err : goal.invariant_of-self-in-Err
invariant_of-self-in-Err c =
    let m = c.args.self.now in
    record {
      rooted = subst (λ ks. ∥ Rooted NamesBelow ks ∥₁) (sym c.in-Err.ensures.interned.same) m.rooted;
    }

pub returns-in-Ok : goal.returns-in-Ok
returns-in-Ok c t told =
    let m = c.args.self.now in
    let h' : Held = record { terms = decode tree (held c.intern.new.self); room = capacity c.intern.new.self; over = m.overfull } in
    subst (Makes (view m) h' c.in-Ok.place) (told c.if-self.false).1
    (makes_placed (view m) h' (tree (view m).terms c.args.key) c.if-self.false c.in-Ok.ensures.slots.capacity c.in-Ok.place c.if-self.false
    (lifted m c.args.key (Ok c.in-Ok.place) (held c.intern.new.self) (c.if-not-names.ensures.0 refl) c.in-Ok.ensures.interned))

pub returns-in-Err : goal.returns-in-Err
returns-in-Err c t told =
    let m = c.args.self.now in
    let h' : Held = record { terms = decode tree (held c.intern.new.self); room = capacity c.intern.new.self; over = true } in
    subst (Makes (view m) h' 0) (told c.if-self.false).1
    (makes_refused (view m) h' (tree (view m).terms c.args.key) c.if-self.false c.in-Err.ensures.slots.capacity 0 refl (memory_apart m)
    (lifted m c.args.key (Err c.in-Err.field-0) (held c.intern.new.self) (c.if-not-names.ensures.0 refl) c.in-Err.ensures.interned))
