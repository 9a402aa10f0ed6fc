-- Any order of an image's vertices, of its edges or of one vertex's list: the calls that make it, and the three
-- results for all words.
use Rattle.std.specs.Prelude.{ℕ, ◌*◌, ◌-◌, not, List, [], ◌∷◌, length, ltb, ◌==◌, Result, Ok, Err}
use Rattle.lists.specs.Choice.{◌⇒◌else◌}
use Rattle.lists.specs.Lists.{overwritten}
use Rattle.graph.specs.Graph.{has_vertex, vertex_numbers, edge_numbers, list_of}
use Rattle.graph.specs.WellFormed.{same_words}
use Rattle.image.specs.Image.{load}
use Rattle.image_check.specs.Checks.{saved_bounds, load_code, bad_code}
use Rattle.commands.specs.Calls.{Call, five}
use Rattle.arrangement.specs.declared.Arrangement.{Arrangement}
use Rattle.arrangement.specs.declared.Kind.{Kind}
use Rattle.arrangement.specs.declared.Kind.TheVariants.{Vertex, Edge, Word}
use Rattle.arrangement.specs.declared.NotArranged.{NotArranged}
use Rattle.arrangement.specs.declared.NotArranged.TheVariants.{Image, NoVertex, OtherItems, Short}

-- ---- the calls: the second wanted item goes behind the first, the third behind the second, and so on

abbrev pub calls_from : ℕ → ℕ → List ℕ → List Call
calls_from kind b [] = []
calls_from kind b (a ∷ ws) = five kind a b 0 0 ∷ calls_from kind a ws

abbrev pub arrange_calls : ℕ → List ℕ → List Call
arrange_calls kind [] = []
arrange_calls kind (w ∷ ws) = calls_from kind w ws

-- the same as words, five a call
abbrev pub words_from : ℕ → ℕ → List ℕ → List ℕ
words_from kind b [] = []
words_from kind b (a ∷ ws) = kind ∷ a ∷ b ∷ 0 ∷ 0 ∷ words_from kind a ws

abbrev pub call_words : ℕ → List ℕ → List ℕ
call_words kind [] = []
call_words kind (w ∷ ws) = words_from kind w ws

-- ---- the result

-- the code, the number of calls, and the lent list as it ends
pub record Outcome : Type 0 where
  pub code : ℕ
  pub calls : ℕ
  pub list : List ℕ

-- what the code gives, with the list that it leaves
abbrev pub outcome : Arrangement → List ℕ → Outcome
outcome r list = record { code = r.code; calls = r.calls; list = list }

-- a refusal tells no calls and writes nothing
abbrev pub refusal : ℕ → List ℕ → Outcome
refusal code list = record { code = code; calls = 0; list = list }

-- the calls in front of the list, and behind them what stood there
abbrev pub written : ℕ → List ℕ → List ℕ → Outcome
written kind wanted list = record {
  code = 0;
  calls = length wanted - 1;
  list = overwritten (call_words kind wanted) list;
}

-- 111 where the wanted words are not the items, each as often; then 112 where the list is too short for the calls
unfoldable pub arrangement : ℕ → List ℕ → List ℕ → List ℕ → Outcome
arrangement kind items wanted list =
    not (same_words wanted items) ⇒ refusal 111 list else
    ltb (length list) (5 * (length wanted - 1)) ⇒ refusal 112 list else
    written kind wanted list

-- words that do not load, as for the page, have their code; of others, what follows
abbrev pub loaded_then : List ℕ → List ℕ → Outcome → Outcome
loaded_then ws list o = (load_code saved_bounds ws == 0) ⇒ o else refusal (load_code saved_bounds ws) list

-- Vseq by kind 12, Eseq by kind 14, the list of a vertex by kind 16; there 4 where the vertex is missing
unfoldable pub vertex_order : List ℕ → List ℕ → List ℕ → Outcome
unfolding arrangement
vertex_order ws wanted list = loaded_then ws list (arrangement 12 (vertex_numbers (load ws)) wanted list)

unfoldable pub edge_order : List ℕ → List ℕ → List ℕ → Outcome
unfolding arrangement
edge_order ws wanted list = loaded_then ws list (arrangement 14 (edge_numbers (load ws)) wanted list)

unfoldable pub word_order : List ℕ → ℕ → List ℕ → List ℕ → Outcome
unfolding arrangement
word_order ws v wanted list =
    loaded_then ws list
    (has_vertex (load ws) v ⇒ arrangement 16 (list_of (load ws) v) wanted list else refusal 4 list)

-- ---- for the code

abbrev pub kind_number : Kind → ℕ
kind_number Vertex = 12
kind_number Edge = 14
kind_number Word = 16

abbrev pub not_arranged_code : NotArranged → ℕ
not_arranged_code (Image bad) = bad_code bad
not_arranged_code NoVertex = 4
not_arranged_code OtherItems = 111
not_arranged_code Short = 112

-- what C is told of it
abbrev pub told : Result ℕ NotArranged → Arrangement
told (Ok calls) = record { code = 0; calls = calls }
told (Err refusal) = record { code = not_arranged_code refusal; calls = 0 }
