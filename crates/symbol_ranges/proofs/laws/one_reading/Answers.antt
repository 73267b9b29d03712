use Rattle.symbol_ranges.proofs.Exclusive.{not_both, one_refusal, says_one}
use Rattle.symbol_ranges.proofs.laws.one_reading.Goals as goal

pub returns-clause-not_both : goal.returns-clause-not_both
returns-clause-not_both c bytes good bad = not_both bytes bad.0 bad.1 good.0 bad.2 good.1

pub returns-clause-one_list : goal.returns-clause-one_list
returns-clause-one_list c = says_one

pub returns-clause-one_refusal : goal.returns-clause-one_refusal
returns-clause-one_refusal c = one_refusal
