-- What the question of the walk promises: the check's numbers first, then 51 and 52, then the walk, of which the laws hold.
-- Assumes nothing.
use Prim.Native.Nat.{ℕ, ◌≤◌, ◌<◌}
use mathlib.Core.Path.{◌≡◌, refl, sym, ap, subst, ◌∙◌}
use mathlib.Core.List.Memᴰ
use mathlib.Core.List.{List, [], ◌∷◌}
use mathlib.Core.Option.{some, none}
use native.Mathlib.Omega.{arith}
use borrow.Author.Tests.{ltb-true, lt-ltb, le-ltb}
use lib.Dec.{ltb}
use lib.ListN.{length}
use Rattle.std.proofs.Common.{Result, Ok, Err}
use Rattle.lists.specs.Member.{◌∈◌}
use Rattle.lists.proofs.Below.{in_below}
use Rattle.lists.proofs.Member.{in_map}
use Rattle.graph.specs.Graph.{Graph}
use Rattle.graph.specs.Fault.{Fault, fault_if, fault_unless, first_fault, refused_or}
use Rattle.graph.specs.Valid.{Valid}
use Rattle.graph.proofs.Faults.{quiet_unless, quiet_each}
use Rattle.rules.specs.Cover.{Tree, IsTree}
use Rattle.rules.specs.CoverBytes.{trees_in, tree_in, decode}
use Rattle.rules.specs.CheckCover.{cover_fault}
use Rattle.rules.specs.Questions.{Question, graph_in, crews_in, question_fault, check_fault, ask_check}
use Rattle.rules.specs.WalkQuestion.{least_walk_room, walk_fault, refused, ask_walk, stop_bytes, walk_after}
use Rattle.rules.proofs.Admitted.{admitted}
use Rattle.cover_laws.proofs.PassedTests.{quiet_passed}
use Rattle.cover_laws.proofs.CheckedCovers.{cover_read}
use Rattle.cover_laws.proofs.CheckQuestion.{yes_says, number_says}
use Rattle.cover_laws.proofs.ClosedWalk.{closed_walk_length, closed_walk_stops, closed_walk_few, walk_passes}
use Rattle.cover_laws.proofs.OnlyWalk.{closed_walk_exactly}
use Rattle.admit.specs.declared.refusal.Refusal.{Refusal}
use Rattle.admit.specs.declared.refusal.Refusal.TheVariants.{TreeNumber, WalkRoom}
use Rattle.admit.specs.Refusals.{number_of}
use Rattle.filed.specs.Promise.{CheckPromise}
use Rattle.replies.specs.Replies.{said}
use Rattle.closed_walk.specs.declared.walk.Walked.{Walked}
use Rattle.closed_walk.specs.Promise.{WalkReplied, WalksTree, WalkPromise}
use Rattle.closed_walk.specs.Checked.{CheckedGiven, TreeAsked, TreeWalked, CheckedWalked}

-- A refusal says its number and leaves the buffer as it is.
refuses : {number : ℕ} (f : Refusal) (buffer : List ℕ) → number ≡ number_of f → WalkReplied (refused number) buffer buffer (Err f)
unfolding walk_after stop_bytes
refuses f buffer q = record { same = ap (λ n. said n []) (sym q); buffer = refl }

-- Tree j is one of the trees.
tree_inside : (c : List ℕ) (j : ℕ) → j < trees_in c → tree_in c j ∈ decode c
unfolding decode
tree_inside c j there = in_map (tree_in c) (in_below (trees_in c) there)

-- 51 AND 52

module _ (g : Graph) (c : List ℕ) (j : ℕ) (buffer : List ℕ) where
  pub no_such_tree : trees_in c ≤ j → CheckedWalked g c j buffer buffer (Err TreeNumber)
  unfolding refused_or first_fault fault_unless
  no_such_tree h = rw (le-ltb j (trees_in c) h) (refuses TreeNumber buffer refl)

  module _ (there : j < trees_in c) where
    pub little_room : length buffer < least_walk_room → CheckedWalked g c j buffer buffer (Err WalkRoom)
    unfolding refused_or first_fault fault_unless fault_if
    little_room h = rw (lt-ltb j (trees_in c) there, lt-ltb (length buffer) least_walk_room h) (refuses WalkRoom buffer refl)

    module _ (room : least_walk_room ≤ length buffer) where
      pub tree_asked : CheckedGiven g c → TreeAsked g c j (length buffer)
      tree_asked checked = record { cover = checked.cover; is_tree = checked.are_trees (tree_in c j) (tree_inside c j there); fits = room }

      pub tree_answered : {after : List ℕ} {r : Result Walked Refusal} → TreeWalked g c j buffer after r → CheckedWalked g c j buffer after r
      unfolding refused_or first_fault fault_unless fault_if
      tree_answered w = rw (lt-ltb j (trees_in c) there, le-ltb (length buffer) least_walk_room room) w

-- THE CHECK BEFORE THEM

-- The laws hold of the walk along a tree.
walks_tree : {g : Graph} {t : Tree} → Valid g → IsTree g t → WalksTree g t
walks_tree valid is = record {
  is_tree = is;
  exactly = closed_walk_exactly is;
  long = closed_walk_length is;
  count = closed_walk_stops is;
  few = closed_walk_few is valid;
  passes = walk_passes is;
}

module _ (q : Question) (c : List ℕ) where
  abbrev g : Graph
  g = graph_in q

  -- Nothing is refused of a cover that passed the check,
  passed : {h : ℕ} → CheckPromise q c (Ok h) → check_fault q c ≡ none
  unfolding ask_check
  passed {h} p = (yes_says (check_fault q c) h _ (sym p.rule)).0

  -- and it is one.
  pub checked_given : {h : ℕ} → CheckPromise q c (Ok h) → CheckedGiven g c
  checked_given {h} p =
      let filed = (p.exactly h).0 refl in
      let a = admitted q filed.admitted in
      let tests = quiet_passed g (crews_in q) c (quiet_cover p) in
      let read : decode c ≡ filed.trees = ap decode filed.bytes ∙ cover_read g a.valid (crews_in q) a.few filed.trees filed.cover in
      record {
        cover = record { valid = a.valid; starts = tests.inside; entries = tests.entries };
        are_trees = λ t m. filed.cover.all_covered.are_trees t (subst (λ l. t ∈ l) read m);
      }
    where
      quiet_cover : CheckPromise q c (Ok h) → cover_fault g (crews_in q) c ≡ none
      quiet_cover p = unfold check_fault in quiet_each (question_fault q ∷ cover_fault g (crews_in q) c ∷ []) (passed p) (Memᴰ.tail (Memᴰ.head refl))

  module _ (tree : ℕ) where
    -- The promise follows from the rule, and from what the check found out.
    promised : {before after : List ℕ} {r : Result Walked Refusal} → WalkReplied (ask_walk q c tree (length before)) before after r
        → (walk_fault q c tree (length before) ≡ none → CheckedGiven g c × (tree < trees_in c)) → WalkPromise q c tree before after r
    unfolding ask_walk refused_or walk_after stop_bytes
    promised {before} {after} {r} rule given = record {
      refuses = λ n e. let told : WalkReplied (refused n) before after r = rw e at rule in (told.same, told.buffer);
      rule = rule;
      means = λ e. let (checked, there) = given e in walks_tree checked.cover.valid (checked.are_trees (tree_in c tree) (tree_inside c tree there));
    }

    -- The check's refusal is the walk's.
    pub check_refuses : {f : Refusal} (buffer : List ℕ) → CheckPromise q c (Err f) → WalkPromise q c tree buffer buffer (Err f)
    unfolding ask_check ask_walk walk_fault first_fault refused_or
    check_refuses {f} buffer p =
        let e : check_fault q c ≡ some (number_of f) = number_says (check_fault q c) (number_of f) _ (sym p.rule) in
        promised (rw e (refuses f buffer refl)) (rw e (λ n. let z : ◌≡◌ {A = ℕ} 0 1 = cc in absurd (omega arith)))

    -- Where the check passes, 51 and 52 decide.
    pub check_passes : {h : ℕ} {before after : List ℕ} {r : Result Walked Refusal} → CheckPromise q c (Ok h) → CheckedWalked g c tree before after r
        → WalkPromise q c tree before after r
    unfolding ask_walk walk_fault first_fault refused_or
    check_passes {before = before} p w =
        let e = passed p in
        let later : List Fault = fault_unless (ltb tree (trees_in c)) 51 ∷ fault_if (ltb (length before) least_walk_room) 52 ∷ [] in
        promised (rw e w) (rw e (λ n. (checked_given p, ltb-true tree (trees_in c) (quiet_unless _ _ (quiet_each later n (Memᴰ.head refl))))))
