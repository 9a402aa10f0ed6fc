-- A price is read off the present graph alone, so it comes back with the graph of a mark; where code 17 is given.
use Prim.Native.Nat.{ℕ, ◌<◌}
use mathlib.Core.Path.{◌≡◌, refl, sym, ap, ◌∙◌}
use mathlib.Core.Logic.{◌↔◌}
use mathlib.Core.Bool.{Bool, true, false, ◌||◌}
use mathlib.Core.List.{List, [], ◌∷◌, ◌++◌}
use native.Mathlib.Omega.{arith}
use lib.Dec.{ltb}
use borrow.Author.Tests.{ltb-true, lt-ltb}
use Rattle.lists.proofs.Bools.{ft}
use Rattle.lists.specs.Choice.{◌⇒◌else◌}
use Rattle.lists.specs.Lists.{any}
use Rattle.graph.specs.Graph.{Graph}
use Rattle.history.specs.Machine.{Machine, Name, fresh, present}
use Rattle.commands.specs.declared.PriceCall.{PriceCall}
use Rattle.commands.specs.declared.PriceCall.TheVariants.{Range, Grade}
use Rattle.commands.specs.declared.Command.TheVariants.{Quote}
use Rattle.commands.specs.Calls.{Call}
use Rattle.commands.specs.Commands.{command_of}
use Rattle.machine.specs.Calls.{Parameters}
use Rattle.prices.specs.Prices.{nothing_heard}
use Rattle.machine.specs.Codes.{lacks_vertex, price_code}
use Rattle.machine.specs.Machine.{price_on, answer_to, answer, step, last}
use Rattle.machine.specs.Marks.{event_of, events, sets_mark, ends_mark, Kept, set_here, set_later, go_to}
use Rattle.machine.specs.Names.{HasName, go_by}
use Rattle.machine.proofs.Families.{price_refusal}
use Rattle.machine.proofs.MarkLaws.{mark_sentence}
use Rattle.machine.proofs.NameLaws.{name_sentence}

pub price_of_present : (w : Parameters) (m : Machine) (p : PriceCall) → answer_to w m (Quote p) ≡ price_on (present m) p
unfolding answer_to
price_of_present w m p = rw (price_refusal w m p)

-- ---- code 17: a price list that there is not, of a pair that has a range

exactly : (u v t : Bool) →
    ◌≡◌ {A = ℕ} (u ⇒ 4 else v ⇒ 16 else t ⇒ 17 else 0) 17 ↔ ((◌≡◌ {A = ℕ} (u ⇒ 4 else v ⇒ 16 else 0) 0) × (t ≡ true))
exactly true v t = (λ e. absurd (omega arith), λ p. absurd (omega arith))
exactly false true t = (λ e. absurd (omega arith), λ p. absurd (omega arith))
exactly false false true = (λ e. (refl, refl), λ p. refl)
exactly false false false = (λ e. absurd (omega arith), λ p. ft p.1)

pub price_list_code : (g : Graph) (a b c : ℕ) →
    (price_code g (Grade a b c) ≡ 17) ↔ ((price_code g (Range a b) ≡ 0) × (2 < c))
price_list_code g a b c =
    let x = exactly (lacks_vertex g a || lacks_vertex g b) (nothing_heard g a b) (ltb 2 c) in (
      λ e. let p = x.0 e in (p.0, ltb-true 2 c p.1),
      λ p. x.1 (p.0, lt-ltb 2 c p.1),
    )

-- ---- marks

price_on_lem : (w : Parameters) (m : Machine) (h : Graph) → present m ≡ h → (x : Call) (p : PriceCall) → command_of x ≡ Quote p → answer w m x ≡ price_on h p
price_on_lem w m h i x p e = ap (answer_to w m) e ∙ price_of_present w m p ∙ ap (λ (y : Graph). price_on y p) i

-- at every point, after a call that goes to a standing mark by its number or its name: what is answered on the graph h,
-- held as the mark was last set
pub price_comes_back : (w : Parameters) (g : Graph) (xs : List Call) (k q : ℕ) (h : Graph) (b c d : ℕ) →
    Kept k q h (events w (fresh g) xs) → (x : Call) (p : PriceCall) → command_of x ≡ Quote p →
    answer w (step w (last w (fresh g) xs) (go_to k b c d)) x ≡ price_on h p
price_comes_back w g xs k q h b c d r = price_on_lem w (step w (last w (fresh g) xs) (go_to k b c d)) h ((mark_sentence w g xs).going k q h b c d r).1

pub price_by_name : (w : Parameters) (g : Graph) (xs : List Call) (k q : ℕ) (h : Graph) (n : Name) (c d : ℕ) →
    HasName k q h n (events w (fresh g) xs) → (x : Call) (p : PriceCall) → command_of x ≡ Quote p →
    answer w (step w (last w (fresh g) xs) (go_by n c d)) x ≡ price_on h p
price_by_name w g xs k q h n c d r = price_on_lem w (step w (last w (fresh g) xs) (go_by n c d)) h ((name_sentence w g xs).going k q h n c d r).1

-- a mark that call s sets and none of the calls vs ends
kept_at : (w : Parameters) (m : Machine) (us vs : List Call) (s : Call) (k : ℕ) → sets_mark k (event_of w (last w m us) s) ≡ true →
    any (ends_mark k (last w m us).line.place) (events w (step w (last w m us) s) vs) ≡ false →
    Kept k (last w m us).line.place (present (last w m us)) (events w m (us ++ (s ∷ vs)))
unfolding last events
kept_at w m [] vs s k e f = set_here e refl refl f
kept_at w m (u ∷ us) vs s k e f = set_later (kept_at w (step w m u) us vs s k e f)

-- after returning to a mark, each call of the price list answers what it would have answered where the mark was set
pub price_as_there : (w : Parameters) (g : Graph) (us vs : List Call) (s : Call) (k b c d : ℕ) →
    sets_mark k (event_of w (last w (fresh g) us) s) ≡ true →
    any (ends_mark k (last w (fresh g) us).line.place) (events w (step w (last w (fresh g) us) s) vs) ≡ false →
    (x : Call) (p : PriceCall) → command_of x ≡ Quote p →
    answer w (step w (last w (fresh g) (us ++ (s ∷ vs))) (go_to k b c d)) x ≡ answer w (last w (fresh g) us) x
price_as_there w g us vs s k b c d e f x p i =
    price_comes_back w g (us ++ (s ∷ vs)) k _ (present (last w (fresh g) us)) b c d (kept_at w (fresh g) us vs s k e f) x p i
    ∙ sym (ap (answer_to w (last w (fresh g) us)) i ∙ price_of_present w (last w (fresh g) us) p)
