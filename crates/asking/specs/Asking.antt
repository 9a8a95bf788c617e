-- A question about a graph that passed its check: a trial at a limit, or the search for the best limit; and what is asked of each step that answers it.
-- Assumes nothing.
use Rattle.std.specs.Prelude.{ℕ, ◌≤◌, List, length}
use Rattle.lists.specs.Put.{OnlyFirst}
use Rattle.graph.specs.Graph.{Graph, edge_count}
use Rattle.graph.specs.Valid.{Valid}
use Rattle.rules.specs.Cover as cover
use Rattle.rules.specs.RootedTrial.{Choices}
use Rattle.rules.specs.Search.{trial}
use Rattle.rules.specs.FewTrials as rules
use Rattle.rules.specs.FewTrials.{standing, before_trials, within}
use Rattle.rules.specs.Fit.{crew_count, CrewsFit, GoodFor}
use Rattle.rules.specs.Questions.{most_limit, least_room}
use Rattle.admit.specs.declared.crews.Kind.{Kind}
use Rattle.replies.specs.declared.Told.{Told}
use Rattle.replies.specs.Replies.{Tells}
use Rattle.order.specs.Order.{RoomForOrder}
use Rattle.asking.specs.declared.ask.Asked.{Asked}
use Rattle.asking.specs.declared.ask.Asked.TheVariants.{At, Within}
use Rattle.answers.specs.Answers.{AnswerAsked}
use Rattle.rooted_state.specs.Prepared.{RootsGiven}
use Rattle.prepare.specs.declared.Ready.{Ready}
use Rattle.prepare.specs.declared.crews.Prepared.{Prepared}
use Rattle.prepare.specs.Preparing.{Small, RootedRoom, RootedPrepared}

-- The limit at which the answer is written.
abbrev pub limit_of : Asked → Graph → cover.Crews → ℕ
limit_of (At limit) g crews = limit
limit_of (Within p) g crews = (standing g crews p).high

-- What the rules tell.
abbrev pub tell_to : Asked → Graph → cover.Crews → Choices → rules.Told
tell_to (At limit) g crews c = before_trials (trial g crews limit c)
tell_to (Within p) g crews c = within g crews p c

-- A limit that is given is within document 01's range, and there are trials for 0 and the sum.
abbrev pub AskedFits : Asked → Type 0
AskedFits (At limit) = limit ≤ most_limit
AskedFits (Within p) = 2 ≤ p

-- The question is answered as the rules have it, by good choices.
pub record Answered (asked : Asked) (g : Graph) (crews : cover.Crews) (before after : List ℕ) (r : Told) : Type 0 where
  pub choices : Choices
  pub good : GoodFor g crews (limit_of asked g crews) choices
  pub tells : Tells (tell_to asked g crews choices) before after r

-- Everything that the crews read, and trials for 0 and the sum.
pub record SearchReady (g : Graph) (p : Prepared) (trials room : ℕ) : Type 0 where
  pub answer : AnswerAsked g p room
  pub some_trials : 2 ≤ trials

-- Everything that the crews read, for what is asked.
pub record AskedReady (g : Graph) (p : Prepared) (asked : Asked) (room : ℕ) : Type 0 where
  pub answer : AnswerAsked g p room
  pub asked_fits : AskedFits asked

-- A question by crews with roots of which nothing is prepared yet.
pub record RootedAsked (g : Graph) (roots : List ℕ) (asked : Asked) (room : ℕ) : Type 0 where
  pub given : RootsGiven g roots
  pub asked_fits : AskedFits asked
  pub room_most : least_room ≤ room

-- The same, with the arrays that it is answered in.
pub record RootedLent (g : Graph) (roots : List ℕ) (asked : Asked) (order kept bounds all arcs distances lasts : List ℕ) (room : ℕ) : Type 0 where
  pub question : RootedAsked g roots asked room
  pub arrays : RootedRoom g.vertices (edge_count g) (length roots) (length order) (length kept) (length bounds) (length all) (length arcs)
      (length distances) (length lasts)

-- It is answered, and the arrays hold what was prepared for it.
pub record RootedAnswered (asked : Asked) (g : Graph) (roots order₀ order kept₀ kept bounds₀ bounds all₀ all arcs₀ arcs distances₀ distances lasts₀ lasts before after : List ℕ)
    (r : Told) : Type 0 where
  pub answered : Answered asked g (cover.rooted roots) before after r
  pub ready : Ready
  pub prepared : RootedPrepared g roots order₀ order kept₀ kept bounds₀ bounds all₀ all arcs₀ arcs distances₀ distances lasts₀ lasts ready

-- A question by crews with roots of which nothing is prepared yet, about a small graph.
pub record RootedSmall (g : Graph) (roots : List ℕ) (asked : Asked) (room : ℕ) : Type 0 where
  pub question : RootedAsked g roots asked room
  pub small : Small g (length roots)

-- A question by crews without roots of which nothing is prepared yet.
pub record UnrootedAsked (k : ℕ) (g : Graph) (asked : Asked) (room : ℕ) : Type 0 where
  pub valid : Valid g
  pub crews_few : k ≤ 32
  pub asked_fits : AskedFits asked
  pub room_most : least_room ≤ room

-- The same, with the arrays that its edges are put in order in.
pub record UnrootedLent (k : ℕ) (g : Graph) (asked : Asked) (keys spare order room : ℕ) : Type 0 where
  pub question : UnrootedAsked k g asked room
  pub for_order : RoomForOrder g keys spare order

-- It is answered. Behind an element for each edge these arrays are as they came.
pub record UnrootedAnswered (asked : Asked) (k : ℕ) (g : Graph) (keys₀ keys spare₀ spare order₀ order before after : List ℕ) (r : Told) : Type 0 where
  pub answered : Answered asked g (cover.unrooted k) before after r
  pub keys_rest : OnlyFirst (edge_count g) keys₀ keys
  pub spare_rest : OnlyFirst (edge_count g) spare₀ spare
  pub order_rest : OnlyFirst (edge_count g) order₀ order

-- A question by crews without roots of which nothing is prepared yet, about a graph whose edges fit in arrays of some length.
pub record UnrootedFits (k : ℕ) (g : Graph) (asked : Asked) (size room : ℕ) : Type 0 where
  pub question : UnrootedAsked k g asked room
  pub edges_fit : edge_count g ≤ size
  pub size_most : size ≤ 2048

-- The crews of a question, at most 32 that fit the graph: nothing else is known.
pub record CrewsAsked (g : Graph) (crews : cover.Crews) (asked : Asked) (room : ℕ) : Type 0 where
  pub valid : Valid g
  pub few : crew_count crews ≤ 32
  pub fit : CrewsFit g crews
  pub asked_fits : AskedFits asked
  pub room_most : least_room ≤ room
