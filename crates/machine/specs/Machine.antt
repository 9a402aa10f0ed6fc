-- The plain machine: the answer to a call, the state after it, and a list of calls.
use Rattle.std.specs.Prelude.{ℕ, List, [], ◌∷◌, ◌==◌}
use Rattle.lists.specs.Choice.{◌⇒◌else◌, to_bit}
use Rattle.lists.specs.Lists.{first, successor, before}
use Rattle.type_rows.specs.Types.{below}
use Rattle.graph.specs.Graph.{
  Graph,
  vertex,
  edge,
  vertex_numbers,
  edge_numbers,
  this,
  that,
  list_of,
  reading_kind,
  decimetres,
}
use Rattle.graph.specs.Questions.{degree}
use Rattle.history.specs.Machine.{Machine, present}
use Rattle.machine.specs.Rules.{nothing, Deed, deed, change_deed, history_deed, Rule, answered, followed}
use Rattle.prices.specs.Prices.{two_way, grade}
use Rattle.commands.specs.declared.Question.{Question}
use Rattle.commands.specs.declared.Question.TheVariants.{
  FirstVertex,
  NextVertex,
  FirstEdge,
  NextEdge,
  FirstWord,
  NextWord,
  Alpha,
  Omega,
  This,
  That,
  VertexType,
  EdgeType,
  Value,
  ReadingKind,
  Decimetres,
  Degree,
  VertexOrder,
  EdgeOrder,
  WordOrder,
  Below,
}
use Rattle.commands.specs.declared.PriceCall.{PriceCall}
use Rattle.commands.specs.declared.PriceCall.TheVariants.{Range, Grade}
use Rattle.commands.specs.declared.Command.{Command}
use Rattle.commands.specs.declared.Command.TheVariants.{Alter, History, Ask, Quote, Unknown}
use Rattle.commands.specs.declared.Answer.{Answer}
use Rattle.commands.specs.Calls.{Call}
use Rattle.commands.specs.Commands.{command_of}
use Rattle.machine.specs.Calls.{Parameters}
use Rattle.machine.specs.Codes.{price_code, refusal}

-- ---- numbers of questions and prices

-- REFERENCE 5.1 to 5.6
abbrev pub question_number : List ℕ → Graph → Question → ℕ
question_number rows g FirstVertex = first (vertex_numbers g)
question_number rows g (NextVertex a) = successor a (vertex_numbers g)
question_number rows g FirstEdge = first (edge_numbers g)
question_number rows g (NextEdge a) = successor a (edge_numbers g)
question_number rows g (FirstWord a) = first (list_of g a)
question_number rows g (NextWord a) = successor a (list_of g (this g a))
question_number rows g (Alpha a) = (edge g a).alpha
question_number rows g (Omega a) = (edge g a).omega
question_number rows g (This a) = this g a
question_number rows g (That a) = that g a
question_number rows g (VertexType a) = (vertex g a).type
question_number rows g (EdgeType a) = (edge g a).type
question_number rows g (Value a) = (vertex g a).value
question_number rows g (ReadingKind a) = reading_kind (edge g a).reading
question_number rows g (Decimetres a) = decimetres (edge g a).reading
question_number rows g (Degree a t c) = degree (λ s. below rows s t) c g a
question_number rows g (VertexOrder a b) = to_bit (before a b (vertex_numbers g))
question_number rows g (EdgeOrder a b) = to_bit (before a b (edge_numbers g))
question_number rows g (WordOrder a b) = to_bit (before a b (list_of g (this g a)))
question_number rows g (Below s t) = to_bit (below rows s t)

-- kind 53: the two-way range of a and b; kind 54: the grade of that range by list c (REFERENCE 6.2, 6.3)
abbrev pub price_number : Graph → PriceCall → ℕ
price_number g (Range a b) = two_way g a b
price_number g (Grade a b c) = grade c g a b

-- code and number of a call of the price list, on a graph
abbrev pub price_on : Graph → PriceCall → Answer
price_on g p = record { code = price_code g p; number = (price_code g p == 0) ⇒ price_number g p else 0 }

-- ---- one command: the number and the effect of an accepted one; questions and prices have none

abbrev pub deed_of : Parameters → Command → Machine → Deed
deed_of w (Alter c) m = change_deed c m
deed_of w (History h) m = history_deed w.changes h m
deed_of w (Ask q) m = deed (question_number w.rows (present m) q) nothing
deed_of w (Quote p) m = deed (price_number (present m) p) nothing
deed_of w Unknown m = deed 0 nothing

abbrev pub rule_of : Parameters → Command → Rule
rule_of w c = record { code = λ m. refusal w m c; deed = deed_of w c }

unfoldable pub answer_to : Parameters → Machine → Command → Answer
answer_to w m c = answered (rule_of w c) m

-- a refused call changes nothing
unfoldable pub step_to : Parameters → Machine → Command → Machine
step_to w m c = followed (rule_of w c) m

-- ---- one call, and a list of calls

abbrev pub answer : Parameters → Machine → Call → Answer
answer w m x = answer_to w m (command_of x)

abbrev pub step : Parameters → Machine → Call → Machine
step w m x = step_to w m (command_of x)

-- REFERENCE 2.3
unfoldable pub answers : Parameters → Machine → List Call → List Answer
answers w m [] = []
answers w m (x ∷ xs) = answer w m x ∷ answers w (step w m x) xs

unfoldable pub last : Parameters → Machine → List Call → Machine
last w m [] = m
last w m (x ∷ xs) = last w (step w m x) xs
