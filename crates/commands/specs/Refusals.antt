-- The code of a refusal, and of what was tried: 0 where it is not refused.
use Rattle.std.specs.Prelude.{ℕ, ⊤, Result, Ok, Err}
use Rattle.commands.specs.declared.Answer.{Answer}
use Rattle.commands.specs.Answers.{accepts, refuses}
use Rattle.commands.specs.declared.refusal.Refusal.{Refusal}
use Rattle.commands.specs.declared.refusal.Refusal.TheVariants.{
  UnknownKind,
  NumberOutside,
  NumberInUse,
  NoVertex,
  NoEdge,
  NoType,
  NoReading,
  OtherList,
  SameTwice,
  NoRoom,
  NoMark,
  MarkStands,
  MarkGone,
  AtTheEnd,
  NoSide,
  NothingHeard,
  NoPriceList,
  NoName,
  NameUnknown,
  NoBench,
  NoStore,
}

-- REFERENCE 7
abbrev pub refusal_code : Refusal → ℕ
refusal_code UnknownKind = 1
refusal_code NumberOutside = 2
refusal_code NumberInUse = 3
refusal_code NoVertex = 4
refusal_code NoEdge = 5
refusal_code NoType = 6
refusal_code NoReading = 7
refusal_code OtherList = 8
refusal_code SameTwice = 9
refusal_code NoRoom = 10
refusal_code NoMark = 11
refusal_code MarkStands = 12
refusal_code MarkGone = 13
refusal_code AtTheEnd = 14
refusal_code NoSide = 15
refusal_code NothingHeard = 16
refusal_code NoPriceList = 17
refusal_code NoName = 18
refusal_code NameUnknown = 19
refusal_code NoBench = 20
refusal_code NoStore = 21

-- of what is tried: 0 where it is not refused
abbrev pub code_if_refused : Result ⊤ Refusal → ℕ
code_if_refused (Ok _) = 0
code_if_refused (Err refusal) = refusal_code refusal

-- the answer that a call gets by what came of it
abbrev pub answer_by : Result ℕ Refusal → Answer
answer_by (Ok number) = accepts number
answer_by (Err refusal) = refuses (refusal_code refusal)
