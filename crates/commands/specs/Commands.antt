-- The command of a call, by its kind, and the call that a command is.
use Rattle.std.specs.Prelude.{ℕ, leb, ◌==◌}
use Rattle.lists.specs.Choice.{◌⇒◌else◌}
use Rattle.graph.specs.declared.Change.{Change}
use Rattle.graph.specs.declared.SingleChange.{SingleChange}
use Rattle.graph.specs.declared.SingleChange.TheVariants.{
  CreateVertex,
  CreateEdge,
  DeleteEdge,
  RetypeVertex,
  RetypeEdge,
  SetValue,
  SetReading,
  SetAlpha,
  SetOmega,
  VertexBefore,
  VertexAfter,
  EdgeBefore,
  EdgeAfter,
  WordBefore,
  WordAfter,
}
use Rattle.graph.specs.declared.Change.TheVariants.{Single, DeleteVertex}
use Rattle.commands.specs.Calls.{Call, five}
use Rattle.commands.specs.declared.HistoryCall.{HistoryCall}
use Rattle.commands.specs.declared.HistoryCall.TheVariants.{
  SetMark,
  DropMark,
  Undo,
  Redo,
  GoTo,
  Commit,
  Between,
  Standing,
  Free,
  NameMark,
  GoToName,
  SetBench,
  MadeBy,
}
use Rattle.commands.specs.declared.Question.{Question}
use Rattle.commands.specs.declared.Question.TheVariants.{
  FirstVertex,
  NextVertex,
  FirstEdge,
  NextEdge,
  FirstWord,
  NextWord,
  Alpha,
  Omega,
  This,
  That,
  VertexType,
  EdgeType,
  Value,
  ReadingKind,
  Decimetres,
  Degree,
  VertexOrder,
  EdgeOrder,
  WordOrder,
  Below,
}
use Rattle.commands.specs.declared.PriceCall.{PriceCall}
use Rattle.commands.specs.declared.PriceCall.TheVariants.{Range, Grade}
use Rattle.commands.specs.declared.Command.{Command}
use Rattle.commands.specs.declared.Command.TheVariants.{Alter, History, Ask, Quote, Unknown}

-- the change that a call of kind 1 to 16 asks for
unfoldable pub change_of : Call → Change
change_of x =
    (k == 1) ⇒ Single (CreateVertex a b c) else
    (k == 2) ⇒ DeleteVertex a else
    (k == 3) ⇒ Single (CreateEdge a b c d) else
    (k == 4) ⇒ Single (DeleteEdge a) else
    (k == 5) ⇒ Single (RetypeVertex a b) else
    (k == 6) ⇒ Single (RetypeEdge a b) else
    (k == 7) ⇒ Single (SetValue a b) else
    (k == 8) ⇒ Single (SetReading a b c) else
    (k == 9) ⇒ Single (SetAlpha a b) else
    (k == 10) ⇒ Single (SetOmega a b) else
    (k == 11) ⇒ Single (VertexBefore a b) else
    (k == 12) ⇒ Single (VertexAfter a b) else
    (k == 13) ⇒ Single (EdgeBefore a b) else
    (k == 14) ⇒ Single (EdgeAfter a b) else
    (k == 15) ⇒ Single (WordBefore a b) else
    Single (WordAfter a b)
  where
    k : ℕ
    k = x.kind

    a : ℕ
    a = x.a

    b : ℕ
    b = x.b

    c : ℕ
    c = x.c

    d : ℕ
    d = x.d

unfoldable pub history_of : ℕ → ℕ → ℕ → ℕ → HistoryCall
history_of k a b c =
    (k == 17) ⇒ SetMark a else
    (k == 18) ⇒ DropMark a else
    (k == 19) ⇒ Undo else
    (k == 20) ⇒ Redo else
    (k == 21) ⇒ GoTo a else
    (k == 22) ⇒ Commit else
    (k == 49) ⇒ Between a b else
    (k == 50) ⇒ Standing else
    (k == 56) ⇒ NameMark a b c else
    (k == 57) ⇒ GoToName a b else
    (k == 58) ⇒ SetBench a else
    (k == 59) ⇒ MadeBy a b c else
    Free

unfoldable pub question_of : ℕ → ℕ → ℕ → ℕ → Question
question_of k a b c =
    (k == 30) ⇒ FirstVertex else
    (k == 31) ⇒ NextVertex a else
    (k == 32) ⇒ FirstEdge else
    (k == 33) ⇒ NextEdge a else
    (k == 34) ⇒ FirstWord a else
    (k == 35) ⇒ NextWord a else
    (k == 36) ⇒ Alpha a else
    (k == 37) ⇒ Omega a else
    (k == 38) ⇒ This a else
    (k == 39) ⇒ That a else
    (k == 40) ⇒ VertexType a else
    (k == 41) ⇒ EdgeType a else
    (k == 42) ⇒ Value a else
    (k == 43) ⇒ ReadingKind a else
    (k == 44) ⇒ Decimetres a else
    (k == 45) ⇒ Degree a b c else
    (k == 46) ⇒ VertexOrder a b else
    (k == 47) ⇒ EdgeOrder a b else
    (k == 48) ⇒ WordOrder a b else
    Below a b

unfoldable pub command_of : Call → Command
unfolding change_of history_of question_of
command_of x =
    (k == 0) ⇒ Unknown else
    leb k 16 ⇒ Alter (change_of x) else
    leb k 22 ⇒ History (history_of k x.a x.b x.c) else
    leb k 29 ⇒ Unknown else
    leb k 48 ⇒ Ask (question_of k x.a x.b x.c) else
    leb k 51 ⇒ History (history_of k x.a x.b x.c) else
    (k == 52) ⇒ Ask (question_of k x.a x.b x.c) else
    (k == 53) ⇒ Quote (Range x.a x.b) else
    (k == 54) ⇒ Quote (Grade x.a x.b x.c) else
    (k == 55) ⇒ Unknown else
    leb k 59 ⇒ History (history_of k x.a x.b x.c) else
    Unknown
  where
    k : ℕ
    k = x.kind

-- ---- the words of a command: its kind, what it reads, and 0 for the rest (REFERENCE 2.1)

abbrev pub single_call : SingleChange → Call
single_call (CreateVertex n t x) = five 1 n t x 0
single_call (CreateEdge n a o t) = five 3 n a o t
single_call (DeleteEdge a) = five 4 a 0 0 0
single_call (RetypeVertex a t) = five 5 a t 0 0
single_call (RetypeEdge a t) = five 6 a t 0 0
single_call (SetValue a x) = five 7 a x 0 0
single_call (SetReading a k d) = five 8 a k d 0
single_call (SetAlpha e v) = five 9 e v 0 0
single_call (SetOmega e v) = five 10 e v 0 0
single_call (VertexBefore a b) = five 11 a b 0 0
single_call (VertexAfter a b) = five 12 a b 0 0
single_call (EdgeBefore a b) = five 13 a b 0 0
single_call (EdgeAfter a b) = five 14 a b 0 0
single_call (WordBefore a b) = five 15 a b 0 0
single_call (WordAfter a b) = five 16 a b 0 0

abbrev pub change_call : Change → Call
change_call (Single c) = single_call c
change_call (DeleteVertex a) = five 2 a 0 0 0

abbrev pub history_call : HistoryCall → Call
history_call (SetMark a) = five 17 a 0 0 0
history_call (DropMark a) = five 18 a 0 0 0
history_call Undo = five 19 0 0 0 0
history_call Redo = five 20 0 0 0 0
history_call (GoTo a) = five 21 a 0 0 0
history_call Commit = five 22 0 0 0 0
history_call (Between a b) = five 49 a b 0 0
history_call Standing = five 50 0 0 0 0
history_call Free = five 51 0 0 0 0
history_call (NameMark a b c) = five 56 a b c 0
history_call (GoToName a b) = five 57 a b 0 0
history_call (SetBench a) = five 58 a 0 0 0
history_call (MadeBy a b c) = five 59 a b c 0

abbrev pub question_call : Question → Call
question_call FirstVertex = five 30 0 0 0 0
question_call (NextVertex a) = five 31 a 0 0 0
question_call FirstEdge = five 32 0 0 0 0
question_call (NextEdge a) = five 33 a 0 0 0
question_call (FirstWord a) = five 34 a 0 0 0
question_call (NextWord a) = five 35 a 0 0 0
question_call (Alpha a) = five 36 a 0 0 0
question_call (Omega a) = five 37 a 0 0 0
question_call (This a) = five 38 a 0 0 0
question_call (That a) = five 39 a 0 0 0
question_call (VertexType a) = five 40 a 0 0 0
question_call (EdgeType a) = five 41 a 0 0 0
question_call (Value a) = five 42 a 0 0 0
question_call (ReadingKind a) = five 43 a 0 0 0
question_call (Decimetres a) = five 44 a 0 0 0
question_call (Degree a t c) = five 45 a t c 0
question_call (VertexOrder a b) = five 46 a b 0 0
question_call (EdgeOrder a b) = five 47 a b 0 0
question_call (WordOrder a b) = five 48 a b 0 0
question_call (Below s t) = five 52 s t 0 0

abbrev pub price_call : PriceCall → Call
price_call (Range a b) = five 53 a b 0 0
price_call (Grade a b c) = five 54 a b c 0

-- kind 0 is not named
abbrev pub call_of : Command → Call
call_of (Alter c) = change_call c
call_of (History h) = history_call h
call_of (Ask q) = question_call q
call_of (Quote p) = price_call p
call_of Unknown = five 0 0 0 0 0
