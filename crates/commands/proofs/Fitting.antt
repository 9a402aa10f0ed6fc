-- The command of a call whose words have 32 bits fits.
use Rattle.std.specs.Prelude.{◌==◌}
use mathlib.Core.Bool.{Bool, true, false}
use lib.Dec.{leb}
use Rattle.lists.specs.Choice.{◌⇒◌else◌}
use Rattle.commands.specs.Calls.{Call}
use Rattle.commands.specs.Commands.{change_of, command_of}
use Rattle.commands.specs.Fits.{WordsFit, ChangeFits, CommandFits}

pick {ℓ} : {A : Type ℓ} (P : A → Type 0) (t : Bool) (c d : A) → P c → P d → P (t ⇒ c else d)
pick P true c d h i = h
pick P false c d h i = i

module _ (x : Call) (f : WordsFit x) where
  change_fits : ChangeFits (change_of x)
  unfolding change_of
  change_fits =
      pick ChangeFits (x.kind == 1) _ _ f.c_fits
      (pick ChangeFits (x.kind == 2) _ _ tt
      (pick ChangeFits (x.kind == 3) _ _ tt
      (pick ChangeFits (x.kind == 4) _ _ tt
      (pick ChangeFits (x.kind == 5) _ _ tt
      (pick ChangeFits (x.kind == 6) _ _ tt
      (pick ChangeFits (x.kind == 7) _ _ f.b_fits
      (pick ChangeFits (x.kind == 8) _ _ tt
      (pick ChangeFits (x.kind == 9) _ _ tt
      (pick ChangeFits (x.kind == 10) _ _ tt
      (pick ChangeFits (x.kind == 11) _ _ tt
      (pick ChangeFits (x.kind == 12) _ _ tt
      (pick ChangeFits (x.kind == 13) _ _ tt
      (pick ChangeFits (x.kind == 14) _ _ tt
      (pick ChangeFits (x.kind == 15) _ _ tt tt))))))))))))))

  pub command_fits : CommandFits (command_of x)
  unfolding command_of
  command_fits =
      pick CommandFits (x.kind == 0) _ _ tt
      (pick CommandFits (leb x.kind 16) _ _ change_fits
      (pick CommandFits (leb x.kind 22) _ _ tt
      (pick CommandFits (leb x.kind 29) _ _ tt
      (pick CommandFits (leb x.kind 48) _ _ tt
      (pick CommandFits (leb x.kind 51) _ _ tt
      (pick CommandFits (x.kind == 52) _ _ tt
      (pick CommandFits (x.kind == 53) _ _ tt
      (pick CommandFits (x.kind == 54) _ _ tt
      (pick CommandFits (x.kind == 55) _ _ tt
      (pick CommandFits (leb x.kind 59) _ _ tt tt))))))))))
