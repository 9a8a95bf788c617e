-- `asking::ask_rooted::ask_rooted` meets its contract: the graph's size decides which arrays are lent. Assumes nothing.
use Rattle.asking.proofs.ask_rooted.ask_rooted.Goals as goal

pub ask_rooted_small-requires : goal.ask_rooted_small-requires
ask_rooted_small-requires c = record { question = c.requires; small = c.is_small.ensures.small c.if-is_small.true }
