-- A list of calls: what each asks of the copies, and one call more.
use Prim.Native.Nat.{ℕ, suc, ◌+◌, ◌-◌, ◌*◌, ◌≤◌, ◌<◌}
use mathlib.Core.Path.{◌≡◌, refl, ap, subst, ◌∙◌}
use mathlib.Core.Bool.{true}
use mathlib.Core.List.{List, [], ◌++◌}
use native.Mathlib.Omega.{arith}
use native.Mathlib.Nat.{mul-suc, mul-le-mul_left, mul-le-mul_right}
use lib.ListN.{length, take, drop}
use Rattle.lists.specs.Choice.{within}
use Rattle.lists.proofs.Bools.{ft}
use Rattle.history.specs.Machine.{Machine, present}
use Rattle.commands.specs.Calls.{Call, call_at, calls_of}
use Rattle.commands.specs.Commands.{command_of}
use Rattle.commands.specs.declared.HistoryCall.TheVariants.{SetMark, DropMark, Undo, Redo, GoTo, Commit as CommitCall, Between, Standing, Free, NameMark, GoToName, SetBench, MadeBy}
use Rattle.commands.specs.declared.Command.{Command}
use Rattle.commands.specs.declared.Command.TheVariants.{Alter, History, Ask, Quote, Unknown}
use Rattle.machine.specs.Calls.{Parameters, bounds_in}
use Rattle.machine.specs.Machine.{step_to, last}
use Rattle.graph_tables.specs.Tables.{state}
use Rattle.image_tables.proofs.Laws.{can_save}
use Rattle.timeline.proofs.Steps.{place_short}
use Rattle.history_calls.specs.declared.Store.{Store}
use Rattle.history_calls.specs.Memory.{Memory}
use Rattle.history_calls.proofs.Present.{holds_present, within_present, sized_present}
use Rattle.engine.specs.Running.{Running}
use Rattle.engine.proofs.CallLaws.{last_more}
use Rattle.copies.proofs.MadeLaws.{alter_kind, made_more, made_few, one_more, changes_with}
use Rattle.recorder.proofs.CoverLaws.{covers_as}
use Rattle.copies.specs.Copies.{graph_made, step_graphs, stretch, changes_in}
use Rattle.copies.specs.Recording.{Covers, role_of, takes, Takes}
use Rattle.recorder.specs.Asked.{HasStretch}

-- ---- a call that takes a copy is of kinds 1 to 16

takes_kind : (x : Call) (k : ℕ) → takes (role_of (command_of x)) k ≡ true → within 1 16 x.kind ≡ true
takes_kind x k t = go (command_of x) refl t
  where
    go : (c : Command) → command_of x ≡ c → takes (role_of c) k ≡ true → within 1 16 x.kind ≡ true
    go (Alter c) e t = alter_kind x c e
    go (History (SetMark a)) e t = ft t
    go (History (DropMark a)) e t = ft t
    go (History Undo) e t = ft t
    go (History Redo) e t = ft t
    go (History (GoTo a)) e t = ft t
    go (History CommitCall) e t = ft t
    go (History (Between a b)) e t = ft t
    go (History Standing) e t = ft t
    go (History Free) e t = ft t
    go (History (NameMark a b c)) e t = ft t
    go (History (GoToName a b)) e t = ft t
    go (History (SetBench a)) e t = ft t
    go (History (MadeBy a b c)) e t = ft t
    go (Ask q) e t = ft t
    go (Quote p) e t = ft t
    go Unknown e t = ft t

-- ---- what a copy asks after a call

pub few_places : (w : Parameters) (x : Store) (mem : Memory) (closed : List ℕ) (types : ℕ) (m : Machine) → Running w x mem closed types m → x.current.position.place < 20001
few_places w x mem closed types m r =
    omega (arith, place_short (bounds_in w) x.current.position _ mem.journal m.line r.represents.journal, r.setting.changes, r.setting.limits.few_changes)

count_fits : (size n room : ℕ) → 1 ≤ size → size * n + size ≤ room → n + 1 ≤ room
count_fits size n room h l = omega (arith, mul-suc size n, mul-le-mul_right {m = 1} {n = size} (suc n) h)

pub can_take : (w : Parameters) (x : Store) (mem : Memory) (closed : List ℕ) (types : ℕ) (m : Machine) → Running w x mem closed types m
    → (call : List ℕ) (k size count room : ℕ) → size ≡ stretch w → room < 18446744073709551615 → HasStretch call size count room → takes (role_of (command_of (call_at call))) k ≡ true
    → Takes x.current mem.vertices mem.edges size count room
can_take w x mem closed types m r call k size count room e short h t =
    let fits = h (takes_kind (call_at call) k t) in
    record {
      place = few_places w x mem closed types m r;
      saves = can_save (bounds_in w) (state x.current.head mem.vertices mem.edges) (present m) size (holds_present (bounds_in w) x mem m r.represents)
          (within_present (bounds_in w) x mem m r.represents)
          (sized_present (bounds_in w) x mem m r.represents) (omega (arith, e));
      fits = fits;
      counted = omega (arith, count_fits size count room (omega (arith, e)) fits);
    }

pub room_for : (w : Parameters) (call : List ℕ) (k size count room : ℕ) → size ≡ stretch w → HasStretch call size count room → takes (role_of (command_of (call_at call))) k ≡ true
    → stretch w * count + stretch w ≤ room
room_for w call k size count room e h t = subst (λ (j : ℕ). j * count + j ≤ room) e (h (takes_kind (call_at call) k t))

-- ---- call k of the list

module _ (calls : List ℕ) (k : ℕ) (fits : 5 * k + 5 ≤ length calls) where
  abbrev part : List ℕ
  part = take (5 * k + 5 - 5 * k) (drop (5 * k) calls)

  pub stretch_left : (w : Parameters) (m : Machine) (count size room : ℕ) → count ≡ length (step_graphs w m (take k (calls_of calls))) → size * changes_in (calls_of calls) ≤ room
      → HasStretch part size count room
  stretch_left w m count size room e h t =
      let c = changes_with calls k fits t in
      let f = made_few w m (take k (calls_of calls)) in
      omega (arith, mul-suc size count, mul-le-mul_left {m = suc count} {n = changes_in (calls_of calls)} size (omega arith))

  pub covers_more : (w : Parameters) (m : Machine) (start lent copies numbers used : List ℕ) (count : ℕ)
      → Covers w start lent copies numbers used (step_graphs w m (take k (calls_of calls)) ++ graph_made w (last w m (take k (calls_of calls))) (command_of (call_at part))) count
      (step_to w (last w m (take k (calls_of calls))) (command_of (call_at part)))
      → Covers w start lent copies numbers used (step_graphs w m (take (k + 1) (calls_of calls))) count (last w m (take (k + 1) (calls_of calls)))
  covers_more w m start lent copies numbers used count f =
      covers_as w start lent refl refl refl
      (ap (step_graphs w m) (one_more calls k fits) ∙ made_more w m (take k (calls_of calls)) (call_at part)) refl
      (ap (last w m) (one_more calls k fits) ∙ last_more w m (take k (calls_of calls)) (call_at part)) f

-- before the first call
pub covers_none : (w : Parameters) (m : Machine) (start lent copies numbers used : List ℕ) (n : ℕ) → Covers w start lent copies numbers used [] n m
    → Covers w start lent copies numbers used (step_graphs w m []) n (last w m [])
unfolding step_graphs last
covers_none w m start lent copies numbers used n f = f
