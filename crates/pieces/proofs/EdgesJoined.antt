-- Edges joined one by one are all joined, whatever labels the array held.
-- Assumes nothing.
use Prim.Native.Nat.{ℕ, ◌+◌, ◌≤◌, ◌<◌}
use mathlib.Core.Path.{◌≡◌, refl, ap, ◌∙◌}
use mathlib.Core.Bool.{Bool}
use mathlib.Core.List.{List}
use lib.ListN.{length, get_or, drop}
use Rattle.lists.specs.Put.{OnlyFirst}
use Rattle.lists.proofs.OnlyFirst.{only_first_none, only_first_on}
use Rattle.lists.proofs.NextPlace.{rest_next, rest_none}
use Rattle.graph.specs.Graph.{Graph}
use Rattle.rules.specs.Labels.{Labels, merge_edge, merge_all}
use Rattle.forest.specs.Arrays.{Agrees}
use Rattle.forest.specs.Labelled.{Joined}
use Rattle.pieces.specs.Whole.{AllJoined}

-- From labels on entry: the labels now, and that the edges from i on make of them what all edges make of the first.
pub record JoiningFrom (g : Graph) (edges : List ℕ) (i : ℕ) (after : List ℕ) (label : Labels) : Type 0 where
  pub here : Labels
  pub agrees : Agrees g.vertices after here
  pub merged : merge_all g label edges ≡ merge_all g here (drop i edges)

-- The edges before i were joined.
pub record Joining (g : Graph) (edges : List ℕ) (i : ℕ) (before after : List ℕ) : Type 0 where
  pub same : length after ≡ length before
  pub rest : OnlyFirst g.vertices before after
  pub going : (label : Labels) → Agrees g.vertices before label → JoiningFrom g edges i after label

module _ {g : Graph} {edges : List ℕ} where
  pub joining_none : (before : List ℕ) → Joining g edges 0 before before
  joining_none before =
      record {
        same = refl;
        rest = only_first_none g.vertices before;
        going = λ label a. record { here = label; agrees = a; merged = refl };
      }

  module _ {i : ℕ} {before after : List ℕ} (j : Joining g edges i before after) where
    pub joining_more : {next : List ℕ} {r : Bool} → i < length edges → length next ≡ length after → Joined g (get_or edges i 0) after next r
        → Joining g edges (i + 1) before next
    unfolding merge_all
    joining_more h same one =
        record {
          same = same ∙ j.same;
          rest = only_first_on j.rest one.rest;
          going =
              λ label a.
              let f = j.going label a in
              record {
                here = merge_edge g f.here (get_or edges i 0);
                agrees = one.labels f.here f.agrees;
                merged = f.merged ∙ ap (merge_all g f.here) (rest_next edges i h);
              };
        }

    pub joining_all : length edges ≤ i → AllJoined g edges before after
    unfolding merge_all
    joining_all h =
        record {
          labels = λ label a. let f = j.going label a in rw (f.merged ∙ ap (merge_all g f.here) (rest_none edges i h)) f.agrees;
          rest = j.rest;
        }
