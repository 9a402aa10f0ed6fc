-- Accepted and refused commands.
use Rattle.std.specs.Prelude.{◌==◌}
use mathlib.Core.Path.{◌≡◌}
use mathlib.Core.Bool.{Bool, true, false}
use Rattle.history.specs.Machine.{Machine}
use Rattle.machine.specs.Rules.{effected}
use Rattle.commands.specs.declared.Command.{Command}
use Rattle.machine.specs.Calls.{Parameters}
use Rattle.machine.specs.Codes.{refusal}
use Rattle.machine.specs.Machine.{deed_of, answer_to, step_to}

module _ (w : Parameters) (m : Machine) (c : Command) where
  -- the code answered is the one that refuses
  pub code_is : (t : Bool) → (refusal w m c == 0) ≡ t → ((answer_to w m c).code == 0) ≡ t
  unfolding answer_to
  code_is t f = f

  pub not_refused : ((answer_to w m c).code == 0) ≡ true → (refusal w m c == 0) ≡ true
  unfolding answer_to
  not_refused e = e

  -- an accepted command answers the number of its deed
  pub number_is : (refusal w m c == 0) ≡ true → (answer_to w m c).number ≡ (deed_of w c m).number
  unfolding answer_to
  number_is f = rw f

  pub accepted_step : (refusal w m c == 0) ≡ true → step_to w m c ≡ effected (deed_of w c m).effect m
  unfolding step_to
  accepted_step f = rw f

  pub refused_step : (refusal w m c == 0) ≡ false → step_to w m c ≡ m
  unfolding step_to
  refused_step f = rw f
