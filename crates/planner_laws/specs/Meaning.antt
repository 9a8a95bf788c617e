-- What a reply means, apart from how it is found: of a trial at a limit, and of the best-limit question (demands 2 and 3).
-- That v, T, D, C and the trees are the rules' own is not said here: the promises say it by equations (`ask_trial`, `ask_best`).
-- Assumes nothing.
use Rattle.std.specs.Prelude.{ℕ, ◌*◌, ◌≤◌, ◌<◌, ◌≡◌, false, List, ◌↔◌}
use Rattle.graph.specs.Graph.{Graph}
use Rattle.rules.specs.Cover.{Tree, heaviest, Crews, IsCover}
use Rattle.rules.specs.Reply.{Reply, refused, covered, too_low_stop, too_low_parts, too_low_needs, no_cover}
use Rattle.rules.specs.FewTrials.{Known, Told}
use Rattle.rules.specs.Questions.{most_trials}
use Rattle.rules.specs.ClosedWalk.{Route}
use Rattle.rules.specs.RivalWalks.{ClosedWalks, longest, walks_along}
use Rattle.rules.specs.Weightless.{WeightlessJoined}

-- No cover by the crews is within the limit: the heaviest of each is above it.
abbrev pub NoneWithin : Graph → Crews → ℕ → Type 0
NoneWithin g crews limit = (trees : List Tree) → IsCover g crews trees → limit < heaviest g trees

-- No cover by the crews exists.
abbrev pub NoneAtAll : Graph → Crews → Type 0
NoneAtAll g crews = (trees : List Tree) → IsCover g crews trees → ⊥

-- "Accepted answers carry the heaviest weight": the trees are a cover by the crews, whose heaviest is h.
pub record Carries (g : Graph) (crews : Crews) (h : ℕ) (trees : List Tree) : Type 0 where
  pub cover : IsCover g crews trees
  pub carried : h ≡ heaviest g trees

-- A trial at limit B that accepts: a cover by the crews whose heaviest is at most four times B.
pub record CoveredWithin (g : Graph) (crews : Crews) (limit replied h : ℕ) (trees : List Tree) : Type 0 where
  pub at_limit : replied ≡ limit
  pub carries : Carries g crews h trees
  pub factor_four : h ≤ 4 * limit

-- "Too low, parts T, yards D": no cover is within the limit, "and D < T".
pub record TooFewRoots (g : Graph) (crews : Crews) (limit T D : ℕ) : Type 0 where
  pub none_within : NoneWithin g crews limit
  pub fewer : D < T

-- The best limit: a cover by the crews whose heaviest is at most four times that of every cover by the same crews; the limit is at most that of each.
-- "Our longest walk is at most eight times the longest of anybody's closed walks that together cover the sheet" (document 02, A.1).
pub record CoveredBest (g : Graph) (crews : Crews) (limit h : ℕ) (trees : List Tree) : Type 0 where
  pub carries : Carries g crews h trees
  pub limit_least : (others : List Tree) → IsCover g crews others → limit ≤ heaviest g others
  pub factor_four : (others : List Tree) → IsCover g crews others → h ≤ 4 * heaviest g others
  pub within_eight : (walks : List Route) → ClosedWalks g crews walks → longest g (walks_along g trees) ≤ 8 * longest g walks

-- The best limit's question with a number of trials (document 02, A.6): "Nobody's cover has a heaviest tree below the floor, and ours is at most four
-- times high." Of a spent reply no more is said against other covers; any other is the best limit's.
pub record CoveredSoFar (g : Graph) (crews : Crews) (high h : ℕ) (trees : List Tree) (k : Known) : Type 0 where
  pub carries : Carries g crews h trees
  pub floor_least : (others : List Tree) → IsCover g crews others → k.floor ≤ heaviest g others
  pub factor_four : h ≤ 4 * high
  pub unspent : k.spent ≡ false → CoveredBest g crews high h trees

-- "A limit of 0 accepts exactly when weightless lines join every stop to a yard, or into at most k components" (document 02, A.4): the reply is a cover
-- at limit 0 exactly then. The cover weighs nothing.
pub record AtZero (g : Graph) (crews : Crews) (reply : Reply) : Type 0 where
  pub exactly : ((h : ℕ) × (trees : List Tree) × (reply ≡ covered 0 h trees)) ↔ WeightlessJoined g crews
  pub weighs_nothing : (h : ℕ) (trees : List Tree) → reply ≡ covered 0 h trees → h ≡ 0

-- What the reply of "a trial at limit B" says, by its case. Each "too low" says that no cover is within B.
abbrev pub TrialSays : Graph → Crews → ℕ → Reply → Type 0
TrialSays g crews limit (refused k) = ⊥
TrialSays g crews limit (covered replied h trees) = CoveredWithin g crews limit replied h trees
TrialSays g crews limit (too_low_stop v) = NoneWithin g crews limit
TrialSays g crews limit (too_low_parts T D parts) = TooFewRoots g crews limit T D
TrialSays g crews limit (too_low_needs C) = NoneWithin g crews limit
TrialSays g crews limit no_cover = ⊥

-- What it means: that, and where limit 0 is tried, when it is accepted.
pub record TrialMeans (g : Graph) (crews : Crews) (limit : ℕ) (reply : Reply) : Type 0 where
  pub says : TrialSays g crews limit reply
  pub at_zero : limit ≡ 0 → AtZero g crews reply

-- What the reply of "the best limit" says, by its case. "No cover" says that none exists at all.
abbrev pub BestSays : Graph → Crews → Reply → Type 0
BestSays g crews (refused k) = ⊥
BestSays g crews (covered limit h trees) = CoveredBest g crews limit h trees
BestSays g crews (too_low_stop v) = ⊥
BestSays g crews (too_low_parts T D parts) = ⊥
BestSays g crews (too_low_needs C) = ⊥
BestSays g crews no_cover = NoneAtAll g crews

-- What it means: that, and when the limit replied is 0.
pub record BestMeans (g : Graph) (crews : Crews) (reply : Reply) : Type 0 where
  pub says : BestSays g crews reply
  pub at_zero : AtZero g crews reply

-- What the reply of the best limit's question with a number of trials says, by its case and what is known besides.
abbrev pub WithinSays : Graph → Crews → Reply → Known → Type 0
WithinSays g crews (refused n) k = ⊥
WithinSays g crews (covered limit h trees) k = CoveredSoFar g crews limit h trees k
WithinSays g crews (too_low_stop v) k = ⊥
WithinSays g crews (too_low_parts T D parts) k = ⊥
WithinSays g crews (too_low_needs C) k = ⊥
WithinSays g crews no_cover k = NoneAtAll g crews

-- What it means: that, when the limit replied is 0, and that as many trials as may be asked for are never spent.
pub record WithinMeans (g : Graph) (crews : Crews) (p : ℕ) (told : Told) : Type 0 where
  pub says : WithinSays g crews told.reply told.known
  pub at_zero : AtZero g crews told.reply
  pub enough : p ≡ most_trials → told.known.spent ≡ false
