-- The words that a graph may keep have 32 bits.
use Rattle.std.specs.Prelude.{◌^◌, ◌<◌}
use Rattle.graph.specs.declared.Change.{Change}
use Rattle.graph.specs.declared.SingleChange.{SingleChange}
use Rattle.graph.specs.declared.SingleChange.TheVariants.{
  CreateVertex,
  CreateEdge,
  DeleteEdge,
  RetypeVertex,
  RetypeEdge,
  SetValue,
  SetReading,
  SetAlpha,
  SetOmega,
  VertexBefore,
  VertexAfter,
  EdgeBefore,
  EdgeAfter,
  WordBefore,
  WordAfter,
}
use Rattle.graph.specs.declared.Change.TheVariants.{Single, DeleteVertex}
use Rattle.commands.specs.declared.Command.{Command}
use Rattle.commands.specs.declared.Command.TheVariants.{Alter, History, Ask, Quote, Unknown}
use Rattle.commands.specs.Calls.{Call}

-- those words of a call that a graph may keep
pub record WordsFit (x : Call) : Type 0 where
  pub b_fits : x.b < 2 ^ 32
  pub c_fits : x.c < 2 ^ 32

-- the value that a change sets is a word
abbrev pub SingleFits : SingleChange → Type 0
SingleFits (CreateVertex n t x) = x < 2 ^ 32
SingleFits (CreateEdge n a o t) = Unit {0}
SingleFits (DeleteEdge a) = Unit {0}
SingleFits (RetypeVertex a t) = Unit {0}
SingleFits (RetypeEdge a t) = Unit {0}
SingleFits (SetValue a x) = x < 2 ^ 32
SingleFits (SetReading a k d) = Unit {0}
SingleFits (SetAlpha e v) = Unit {0}
SingleFits (SetOmega e v) = Unit {0}
SingleFits (VertexBefore a b) = Unit {0}
SingleFits (VertexAfter a b) = Unit {0}
SingleFits (EdgeBefore a b) = Unit {0}
SingleFits (EdgeAfter a b) = Unit {0}
SingleFits (WordBefore a b) = Unit {0}
SingleFits (WordAfter a b) = Unit {0}

abbrev pub ChangeFits : Change → Type 0
ChangeFits (Single c) = SingleFits c
ChangeFits (DeleteVertex a) = Unit {0}

abbrev pub CommandFits : Command → Type 0
CommandFits (Alter c) = ChangeFits c
CommandFits (History h) = Unit {0}
CommandFits (Ask q) = Unit {0}
CommandFits (Quote p) = Unit {0}
CommandFits Unknown = Unit {0}
