-- What a call is answered by.
use Rattle.std.specs.Prelude.{ℕ, ◌==◌}
use Rattle.lists.specs.Choice.{◌⇒◌else◌}
use Rattle.commands.specs.declared.Answer.{Answer}

-- REFERENCE 2.2: an accepted call has code 0 and its number, a refused one its code and 0
abbrev pub answer_of : ℕ → ℕ → Answer
answer_of code number = record { code = code; number = (code == 0) ⇒ number else 0 }

abbrev pub accepts : ℕ → Answer
accepts number = record { code = 0; number = number }

abbrev pub refuses : ℕ → Answer
refuses code = record { code = code; number = 0 }
