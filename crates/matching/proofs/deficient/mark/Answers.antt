-- `mark` meets its contract. The loop's invariant: exactly the parts passed are marked.
-- Assumes nothing.
use Prim.Native.Nat.{ℕ, ◌≤◌, ◌<◌, ◌+◌}
use mathlib.Core.Path.{◌≡◌, refl}
use mathlib.Core.List.{List}
use native.Mathlib.Omega.{arith}
use lib.ListN.{length, get_or, take, set, length-take}
use lib.Seq.{get_or-take}
use Rattle.std.proofs.lemmas.Grind.{common_steps}
use Rattle.lists.proofs.AfterStore.{after_store, marked_more, only_marked_more}
use Rattle.lists.proofs.OnlyFirst.{only_first_store}
use Rattle.matching.specs.Marks.{Marks}
use Rattle.matching.proofs.deficient.mark.Goals as goal

one_more : {p a : ℕ} {parts before out : List ℕ} → Marks p a parts before out → p ≤ length out → get_or parts a 0 < p
    → Marks p (a + 1) parts before (set out (get_or parts a 0) 1)
one_more {p} {a} {parts} {before} {out} m fits is_part =
    let part : ℕ = get_or parts a 0 in
    let within : part < length out = omega arith in
    record {
      mark = λ k h. after_store (λ _ b. b < 2) out part 1 k within (omega arith) (λ _. m.mark k h);
      all = marked_more parts out a refl within m.all;
      only = λ k h. only_marked_more parts out a refl within k (m.only k h);
      rest = only_first_store m.rest part 1 is_part;
    }

pub loop-part-preserved : goal.loop-part-preserved
loop-part-preserved c =
    let a : ℕ = c.loop-part.part-index in
    let few : a < c.args.t = omega (arith, length-take c.args.t c.args.parts.now) in
    let part_is : get_or (take c.args.t c.args.parts.now) a 0 ≡ get_or c.args.parts.now a 0 = get_or-take c.args.t c.args.parts.now a 0 few in
    let fits : c.args.p ≤ length c.loop-part.out = grind (arith, common_steps) in
    rw part_is (one_more c.loop-part.invariant fits (c.requires.below a few))
