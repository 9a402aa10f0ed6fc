use Rattle.std.proofs.Common.{rules}
use Rattle.text.specs.Scan.{add_digit, more_digit}
use Rattle.text.proofs.number.Number.with_digit.Goals as goal

pub returns-in-Empty : goal.returns-in-Empty
unfolding add_digit more_digit
returns-in-Empty c = search rules

pub returns-in-Ok : goal.returns-in-Ok
unfolding add_digit more_digit
returns-in-Ok c = search rules

pub returns-in-Err : goal.returns-in-Err
unfolding add_digit more_digit
returns-in-Err c = search rules

pub returns-in-Value-eq0 : goal.returns-in-Value-eq0
unfolding add_digit more_digit
returns-in-Value-eq0 c = search rules

pub returns-in-Value-eq0-2 : goal.returns-in-Value-eq0-2
unfolding add_digit more_digit
returns-in-Value-eq0-2 c = search rules
