-- The code given is that of the first row that applies, of a call the lowest; 10 is given for want of room.
use Rattle.std.specs.Prelude.{◌==◌}
use Prim.Native.Nat.{ℕ, zero, suc, ◌≤◌, ◌<◌}
use mathlib.Core.Path.{◌≡◌, refl, sym, ◌∙◌}
use mathlib.Core.Logic.{◌↔◌, ◌⊎◌, inl, inr}
use mathlib.Core.Bool.{Bool, true, false, ◌&&◌}
use mathlib.Core.List.{List, [], ◌∷◌, map}
use native.Mathlib.Omega.{arith}
use lib.Dec.{leb, ltb}
use borrow.Author.Tests.{eqb-true, leb-true, ltb-true, lt-ltb}
use Rattle.lists.specs.Choice.{◌⇒◌else◌}
use Rattle.lists.specs.Lists.{any, done, more, range}
use Rattle.lists.proofs.Bools.{ft, or_true, and_true}
use Rattle.lists.proofs.Sums.{all_bool}
use Rattle.graph.specs.Changes.{cost}
use Rattle.graph.specs.Same.{alters}
use Rattle.history.specs.Machine.{Machine, present}
use Rattle.commands.specs.Calls.{Call}
use Rattle.machine.specs.Calls.{Parameters}
use Rattle.commands.specs.Kinds.{is_change}
use Rattle.commands.specs.Commands.{change_of, call_of}
use Rattle.machine.specs.Codes.{free, code_table, refusal}
use Rattle.machine.specs.HistoryCodes.{no_room}
use Rattle.commands.specs.Tables.{Row, in_turn, lowest, FirstApplies, found, later, NoneApplies, none, passed}
use Rattle.commands.specs.declared.Command.{Command}
use Rattle.machine.proofs.Families.{Coded}
use Rattle.machine.specs.Run.{Lent, list_table, list_refusal}

-- the codes of the tables, in their order
pub codes : (w : Parameters) (m : Machine) (x : Call) → map (λ (r : Row). r.code) (code_table w m x) ≡ map suc (range 20)
unfolding code_table
codes w m x = refl

pub list_codes : (l : Lent) → map (λ (r : Row). r.code) (list_table l) ≡ 101 ∷ 102 ∷ 103 ∷ 104 ∷ 105 ∷ 108 ∷ 109 ∷ 106 ∷ []
unfolding list_table
list_codes l = refl

-- ---- any table of codes from 1 on

module _ (k : ℕ) where
  pub turn_to : (rs : List Row) → in_turn rs ≡ suc k → FirstApplies (suc k) rs
  turn_to [] e = absurd (omega arith)
  turn_to (r ∷ rs) e = go (λ i. turn_to rs i) r.applies refl e
    where
      go : (in_turn rs ≡ suc k → FirstApplies (suc k) rs) → (t : Bool) → r.applies ≡ t → (t ⇒ r.code else in_turn rs) ≡ suc k → FirstApplies (suc k) (r ∷ rs)
      go ih true f i = found f i
      go ih false f i = later f (ih i)

  pub turn_from : {rs : List Row} → FirstApplies (suc k) rs → in_turn rs ≡ suc k
  turn_from (found f e) = rw f e
  turn_from (later f h) = rw f (turn_from h)

pub none_to : (rs : List Row) → Coded rs → in_turn rs ≡ 0 → NoneApplies rs
none_to [] done e = none
none_to (r ∷ rs) (more c cs) e = go (λ i. none_to rs cs i) r.applies refl e
  where
    go : (in_turn rs ≡ 0 → NoneApplies rs) → (t : Bool) → r.applies ≡ t → (t ⇒ r.code else in_turn rs) ≡ 0 → NoneApplies (r ∷ rs)
    go ih true f i = absurd (omega arith)
    go ih false f i = passed f (ih i)

pub none_from : {rs : List Row} → NoneApplies rs → in_turn rs ≡ 0
none_from none = refl
none_from (passed f h) = rw f (none_from h)

pub turn_either : (rs : List Row) → Coded rs → NoneApplies rs ⊎ ((k : ℕ) × FirstApplies (suc k) rs)
turn_either rs c = go (in_turn rs) refl
  where
    go : (n : ℕ) → in_turn rs ≡ n → NoneApplies rs ⊎ ((k : ℕ) × FirstApplies (suc k) rs)
    go zero e = inl (none_to rs c e)
    go (suc k) e = inr (k, turn_to k rs e)

-- a row with another code does not apply, where a later one is the first
pub later_than : {k : ℕ} {r : Row} {rs : List Row} → FirstApplies k (r ∷ rs) → (r.code ≡ k → ⊥) → (r.applies ≡ false) × FirstApplies k rs
later_than (found f e) n = absurd (n e)
later_than (later f h) n = (f, h)

-- ---- the lowest

-- each code is above the one before it, the first above p
abbrev pub rises : ℕ → List Row → Bool
rises p [] = true
rises p (r ∷ rs) = ltb p r.code && rises r.code rs

-- code k has a row that applies
abbrev pub applies_in : ℕ → List Row → Bool
applies_in k rs = any (λ (r : Row). (r.code == k) && r.applies) rs

above : (p k : ℕ) (rs : List Row) → rises p rs ≡ true → applies_in k rs ≡ true → p < k
above p k [] h a = ft a
above p k (r ∷ rs) h a = go (λ i. above r.code k rs (and_true (ltb p r.code) (rises r.code rs) h).1 i) (or_true ((r.code == k) && r.applies) (applies_in k rs) a)
  where
    go : (applies_in k rs ≡ true → r.code < k) → (((r.code == k) && r.applies) ≡ true) ⊎ (applies_in k rs ≡ true) → p < k
    go ih (inl i) = omega (arith, ltb-true p r.code (and_true (ltb p r.code) (rises r.code rs) h).0, eqb-true r.code k (and_true (r.code == k) r.applies i).0)
    go ih (inr i) = omega (arith, ltb-true p r.code (and_true (ltb p r.code) (rises r.code rs) h).0, ih i)

-- of rows whose codes rise, no code that applies is below the first that does
least : (p k : ℕ) (rs : List Row) → rises p rs ≡ true → applies_in k rs ≡ true → in_turn rs ≤ k
least p k [] h a = ft a
least p k (r ∷ rs) h a = go (λ i. least r.code k rs (and_true (ltb p r.code) (rises r.code rs) h).1 i) r.applies refl (or_true ((r.code == k) && r.applies) (applies_in k rs) a)
  where
    go : (applies_in k rs ≡ true → in_turn rs ≤ k) → (t : Bool) → r.applies ≡ t → (((r.code == k) && r.applies) ≡ true) ⊎ (applies_in k rs ≡ true) → (r.applies ⇒ r.code else in_turn rs) ≤ k
    go ih true f (inl i) = rw f (omega (arith, eqb-true r.code k (and_true (r.code == k) r.applies i).0))
    go ih true f (inr i) = rw f (omega (arith, above r.code k rs (and_true (ltb p r.code) (rises r.code rs) h).1 i))
    go ih false f (inl i) = ft (sym f ∙ (and_true (r.code == k) r.applies i).1)
    go ih false f (inr i) = rw f (ih i)

-- the code of a call is not above any code whose row applies to its words
pub lowest_is : (w : Parameters) (m : Machine) (x : Call) (k : ℕ) → applies_in k (code_table w m x) ≡ true → lowest (code_table w m x) ≤ k
unfolding code_table
lowest_is w m x k a = least 0 k (code_table w m x) refl a

-- ---- the table of a call

pub coded : (w : Parameters) (m : Machine) (x : Call) → Coded (code_table w m x)
unfolding code_table
coded w m x = all_bool (λ (r : Row). leb 1 r.code) (λ r e. leb-true 1 r.code e) (code_table w m x) refl

module _ (w : Parameters) (m : Machine) (c : Command) where
  -- a code is given exactly where its row applies and no row before it does
  pub code_given : (k : ℕ) → (refusal w m c ≡ suc k) ↔ FirstApplies (suc k) (code_table w m (call_of c))
  unfolding refusal
  code_given k = (turn_to k (code_table w m (call_of c)), turn_from k)

  -- a call is accepted exactly where no row applies
  pub none_given : (refusal w m c ≡ 0) ↔ NoneApplies (code_table w m (call_of c))
  unfolding refusal
  none_given = (none_to (code_table w m (call_of c)) (coded w m (call_of c)), none_from)

-- what row 10 says of a change
pub no_room_lem : (w : Parameters) (m : Machine) (x : Call) → is_change x.kind ≡ true
    → (no_room w.changes m x ≡ true) ↔ ((free w m < cost (change_of x) (present m)) × (alters (change_of x) (present m) ≡ true))
unfolding free
no_room_lem w m x k =
    rw k (λ e. let q = and_true _ _ e in (ltb-true _ _ q.0, q.1), λ h. rw (lt-ltb _ _ h.0, h.1))

-- ---- the table of a list

pub list_code_given : (l : Lent) (k : ℕ) → (list_refusal l ≡ suc k) ↔ FirstApplies (suc k) (list_table l)
unfolding list_refusal
list_code_given l k = (turn_to k (list_table l), turn_from k)

pub list_coded : (l : Lent) → Coded (list_table l)
unfolding list_table
list_coded l = all_bool (λ (r : Row). leb 1 r.code) (λ r e. leb-true 1 r.code e) (list_table l) refl

-- a list has a code, or no row applies
pub list_either : (l : Lent) → NoneApplies (list_table l) ⊎ ((k : ℕ) × FirstApplies (suc k) (list_table l))
list_either l = turn_either (list_table l) (list_coded l)
