-- The answer to a question that is one word of a named row, whatever words the table has.
use Rattle.std.specs.Prelude.{ℕ, ◌+◌, ◌-◌, ◌*◌, ◌%◌, List, Result, Ok, Err, get_or}
use Rattle.graph.specs.Graph.{edge_of}
use Rattle.graph_tables.specs.declared.Lookup.{Lookup}
use Rattle.graph_tables.specs.declared.Lookup.TheVariants.{Found, Missing}
use Rattle.graph_tables.specs.Tables.{lookup_vertex, lookup_edge}
use Rattle.commands.specs.declared.Answer.{Answer}
use Rattle.commands.specs.declared.refusal.Refusal.{Refusal}
use Rattle.commands.specs.Answers.{accepts, refuses}

-- where the row that was looked up starts; where it is missing, the refusal
abbrev pub row_or : Refusal → Lookup → Result ℕ Refusal
row_or refusal (Found at) = Ok at
row_or refusal Missing = Err refusal

-- the word so far behind the start of the row that was found; where it is missing, the code
abbrev pub word_answer : ℕ → List ℕ → ℕ → Lookup → Answer
word_answer code table field (Found at) = accepts (get_or table (at + field) 0)
word_answer code table field Missing = refuses code

abbrev pub vertex_word : List ℕ → ℕ → ℕ → Answer
vertex_word vertices a field = word_answer 4 vertices field (lookup_vertex vertices a)

abbrev pub edge_word : List ℕ → ℕ → ℕ → Answer
edge_word edges a field = word_answer 5 edges field (lookup_edge edges a)

-- of an oriented word: the in half stands 6 words behind the out half
abbrev pub half_word : List ℕ → ℕ → ℕ → Answer
half_word edges w field = edge_word edges (edge_of w) (6 * (w % 2) + field)

-- this of the other half
abbrev pub that_word : List ℕ → ℕ → Answer
that_word edges w = edge_word edges (edge_of w) (8 - 6 * (w % 2))
