-- The price lists by name, and the number that names each.
use Rattle.std.specs.Prelude.{◌≡◌, ℕ, ◌<◌, ◌≤◌, List, Result, Ok, Err}
use Rattle.commands.specs.declared.refusal.Refusal.{Refusal}
use Rattle.commands.specs.declared.refusal.Refusal.TheVariants.{NoPriceList}
use Rattle.prices.specs.Grades.{old_limits, new_limits, limits_of}
use Rattle.price_calls.specs.declared.grades.PriceList.{PriceList}
use Rattle.price_calls.specs.declared.grades.PriceList.TheVariants.{Old, New}

-- its printed table
abbrev pub limits_in : PriceList → List ℕ
limits_in Old = old_limits
limits_in New = new_limits

-- what a number names: the list that has the table of that number, or no list
abbrev pub ListNamed : ℕ → Result PriceList Refusal → Type 0
ListNamed c (Ok list) = (c ≤ 2) × (limits_in list ≡ limits_of c)
ListNamed c (Err refusal) = (2 < c) × (refusal ≡ NoPriceList)
