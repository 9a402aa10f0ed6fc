-- The calls that set, end and name marks, that set the bench and that make steps, by their kinds and answers, are those
-- whose effect does.
use Rattle.std.specs.Prelude.{◌==◌}
use Prim.Native.Nat.{ℕ, suc, ◌≤◌, ◌<◌}
use mathlib.Core.Path.{◌≡◌, refl, sym, ap, ◌∙◌}
use mathlib.Core.Logic.{◌≢◌}
use mathlib.Core.Bool.{Bool, true, false, not, ◌&&◌, ◌||◌}
use mathlib.Core.List.{List, [], ◌∷◌, ◌++◌}
use native.Mathlib.Omega.{arith}
use lib.Dec.{leb, ltb}
use lib.ListN.{take}
use borrow.Author.Tests.{eqb-true, eqb-false, ne_eqb, leb-false, le-leb, lt-leb}
use Rattle.lists.specs.Choice.{◌⇒◌else◌, within}
use Rattle.lists.proofs.Bools.{tf, or_none, within_range}
use Rattle.graph.specs.declared.Change.{Change}
use Rattle.graph.specs.Changes.{cost}
use Rattle.graph.specs.Same.{alters}
use Rattle.history.specs.Machine.{Machine, Name, same_name, present}
use Rattle.commands.specs.declared.Command.TheVariants.{Alter}
use Rattle.commands.specs.Calls.{Call}
use Rattle.commands.specs.Commands.{change_of, command_of}
use Rattle.machine.specs.Rules.{Effect, steps, marks, unmarks, goes, names, benches, clears, nothing, change_deed}
use Rattle.machine.specs.Calls.{Parameters}
use Rattle.commands.specs.Kinds.{known}
use Rattle.machine.specs.Codes.{refusal}
use Rattle.machine.specs.Machine.{deed_of, answer}
use Rattle.machine.specs.Marks.{event_of, call_sets, sets_mark, call_ends, ends_mark}
use Rattle.machine.specs.Names.{call_names, call_gives, names_mark, gives_name}
use Rattle.machine.specs.Benches.{sets_bench, call_signs, signs}
use Rattle.machine.proofs.Accepts.{code_is, number_is}
use Rattle.machine.proofs.Families.{change_effect}
use Rattle.graph.proofs.ChangeLaws.{cost_real}
use Rattle.commands.proofs.ByKind.{of_kind, unknown, next_kind, by_kind}

-- ---- the same by the effect

abbrev pub sets_by : Effect → ℕ → Bool
sets_by (marks n) k = k == n
sets_by (steps s) k = false
sets_by (unmarks n) k = false
sets_by (goes p) k = false
sets_by (benches b) k = false
sets_by (names j n) k = false
sets_by clears k = false
sets_by nothing k = false

abbrev pub ends_by : Effect → ℕ → ℕ → ℕ → Bool
ends_by (steps s) k q p = ltb p q
ends_by (marks n) k q p = k == n
ends_by (unmarks n) k q p = k == n
ends_by clears k q p = true
ends_by (goes r) k q p = false
ends_by (benches b) k q p = false
ends_by (names j n) k q p = false
ends_by nothing k q p = false

abbrev pub renames_by : Effect → ℕ → Bool
renames_by (names j n) k = k == j
renames_by (steps s) k = false
renames_by (marks j) k = false
renames_by (unmarks j) k = false
renames_by (goes p) k = false
renames_by (benches b) k = false
renames_by clears k = false
renames_by nothing k = false

abbrev pub names_by : Effect → ℕ → Name → Bool
names_by (names j o) k n = (k == j) && same_name o n
names_by (steps s) k n = false
names_by (marks j) k n = false
names_by (unmarks j) k n = false
names_by (goes p) k n = false
names_by (benches b) k n = false
names_by clears k n = false
names_by nothing k n = false

abbrev pub bench_by : Effect → ℕ → ℕ
bench_by (benches c) b = c
bench_by (steps s) b = b
bench_by (marks k) b = b
bench_by (unmarks k) b = b
bench_by (goes p) b = b
bench_by (names k n) b = b
bench_by clears b = b
bench_by nothing b = b

abbrev pub signs_by : Effect → ℕ → ℕ → List ℕ → List ℕ
signs_by (steps s) b p bs = take p bs ++ (b ∷ [])
signs_by clears b p bs = []
signs_by (marks k) b p bs = bs
signs_by (unmarks k) b p bs = bs
signs_by (goes q) b p bs = bs
signs_by (names k n) b p bs = bs
signs_by (benches c) b p bs = bs
signs_by nothing b p bs = bs

-- ---- by the kind

is_change : (x : Call) → within 1 16 x.kind ≡ true → command_of x ≡ Alter (change_of x)
unfolding command_of
is_change x h = let r = within_range 1 16 x.kind h in rw (ne_eqb x.kind 0 (omega arith), le-leb x.kind 16 r.1)

change_ends : (c : Change) (m : Machine) (k q p : ℕ) → (not ((change_deed c m).number == 0) && ltb p q) ≡ ends_by (change_deed c m).effect k q p
change_ends c m k q p = go (alters c (present m)) refl
  where
    go : (t : Bool) → alters c (present m) ≡ t → (not ((change_deed c m).number == 0) && ltb p q) ≡ ends_by (change_deed c m).effect k q p
    go true e = rw (e, ne_eqb (cost c (present m)) 0 (λ z. omega (arith, z, cost_real c (present m))))
    go false e = rw e

change_signs : (c : Change) (m : Machine) (b p : ℕ) (bs : List ℕ) → ((not ((change_deed c m).number == 0)) ⇒ take p bs ++ (b ∷ []) else bs) ≡ signs_by (change_deed c m).effect b p bs
change_signs c m b p bs = go (alters c (present m)) refl
  where
    go : (t : Bool) → alters c (present m) ≡ t → ((not ((change_deed c m).number == 0)) ⇒ take p bs ++ (b ∷ []) else bs) ≡ signs_by (change_deed c m).effect b p bs
    go true e = rw (e, ne_eqb (cost c (present m)) 0 (λ z. omega (arith, z, cost_real c (present m))))
    go false e = rw e

-- what is to be shown of a call: whether it sets mark k, whether it ends mark k, which stands at q, whether it names
-- mark k, and which bench it leaves where b was, and which benches of steps
abbrev ByKind : Parameters → Machine → ℕ → ℕ → Call → Type 0
ByKind w m k q x =
    (call_sets k x ≡ sets_by (deed_of w (command_of x) m).effect k)
    × (call_ends k q m.line.place (deed_of w (command_of x) m).number x ≡ ends_by (deed_of w (command_of x) m).effect k q m.line.place)
    × (call_names k x ≡ renames_by (deed_of w (command_of x) m).effect k)
    × ((n : Name) → call_gives k n x ≡ names_by (deed_of w (command_of x) m).effect k n)
    × ((b : ℕ) → ((x.kind == 58) ⇒ x.a else b) ≡ bench_by (deed_of w (command_of x) m).effect b)
    × ((b : ℕ) (bs : List ℕ) → call_signs b m.line.place (deed_of w (command_of x) m).number x bs
    ≡ signs_by (deed_of w (command_of x) m).effect b m.line.place bs)

module _ (w : Parameters) (m : Machine) (k q : ℕ) (x : Call) where
  change_kind : within 1 16 x.kind ≡ true → ByKind w m k q x
  change_kind h =
      let r = within_range 1 16 x.kind h in (
        rw (is_change x h, ne_eqb x.kind 17 (omega arith)) (change_effect (λ e. false ≡ sets_by e k) (change_of x) m (λ _. refl) refl),
        rw (is_change x h, ne_eqb 17 x.kind (omega arith), ne_eqb 18 x.kind (omega arith), ne_eqb x.kind 22 (omega arith), h)
            (change_ends (change_of x) m k q m.line.place),
        rw (is_change x h, ne_eqb x.kind 56 (omega arith)) (change_effect (λ e. false ≡ renames_by e k) (change_of x) m (λ _. refl) refl),
        λ n. rw (is_change x h, ne_eqb x.kind 56 (omega arith)) (change_effect (λ e. false ≡ names_by e k n) (change_of x) m (λ _. refl) refl),
        λ b. rw (is_change x h, ne_eqb x.kind 58 (omega arith)) (change_effect (λ e. b ≡ bench_by e b) (change_of x) m (λ _. refl) refl),
        λ b bs. rw (is_change x h, ne_eqb x.kind 22 (omega arith), h) (change_signs (change_of x) m b m.line.place bs),
      )

  next : (n : ℕ) → ByKind w m k q (of_kind n x) → (suc n ≤ x.kind → ByKind w m k q x) → n ≤ x.kind → ByKind w m k q x
  next n h later l = next_kind x (ByKind w m k q) n h later l

  history_kind : x.kind ≤ 22 → 17 ≤ x.kind → ByKind w m k q x
  unfolding command_of
  history_kind top =
      next 17 (refl, refl, refl, λ n. refl, λ b. refl, λ b bs. refl)
      (next 18 (refl, refl, refl, λ n. refl, λ b. refl, λ b bs. refl)
      (next 19 (refl, refl, refl, λ n. refl, λ b. refl, λ b bs. refl)
      (next 20 (refl, refl, refl, λ n. refl, λ b. refl, λ b bs. refl)
      (next 21 (refl, refl, refl, λ n. refl, λ b. refl, λ b bs. refl) (next 22 (refl, refl, refl, λ n. refl, λ b. refl, λ b bs. refl) (λ h. absurd (omega arith)))))))

  late_kind : 30 ≤ x.kind → x.kind ≤ 54 → ByKind w m k q x
  unfolding command_of
  late_kind low top =
      (next 30 (refl, refl, refl, λ n. refl, λ b. refl, λ b bs. refl)
      (next 31 (refl, refl, refl, λ n. refl, λ b. refl, λ b bs. refl)
      (next 32 (refl, refl, refl, λ n. refl, λ b. refl, λ b bs. refl)
      (next 33 (refl, refl, refl, λ n. refl, λ b. refl, λ b bs. refl)
      (next 34 (refl, refl, refl, λ n. refl, λ b. refl, λ b bs. refl)
      (next 35 (refl, refl, refl, λ n. refl, λ b. refl, λ b bs. refl)
      (next 36 (refl, refl, refl, λ n. refl, λ b. refl, λ b bs. refl)
      (next 37 (refl, refl, refl, λ n. refl, λ b. refl, λ b bs. refl)
      (next 38 (refl, refl, refl, λ n. refl, λ b. refl, λ b bs. refl)
      (next 39 (refl, refl, refl, λ n. refl, λ b. refl, λ b bs. refl)
      (next 40 (refl, refl, refl, λ n. refl, λ b. refl, λ b bs. refl)
      (next 41 (refl, refl, refl, λ n. refl, λ b. refl, λ b bs. refl)
      (next 42 (refl, refl, refl, λ n. refl, λ b. refl, λ b bs. refl)
      (next 43 (refl, refl, refl, λ n. refl, λ b. refl, λ b bs. refl)
      (next 44 (refl, refl, refl, λ n. refl, λ b. refl, λ b bs. refl)
      (next 45 (refl, refl, refl, λ n. refl, λ b. refl, λ b bs. refl)
      (next 46 (refl, refl, refl, λ n. refl, λ b. refl, λ b bs. refl)
      (next 47 (refl, refl, refl, λ n. refl, λ b. refl, λ b bs. refl)
      (next 48 (refl, refl, refl, λ n. refl, λ b. refl, λ b bs. refl)
      (next 49 (refl, refl, refl, λ n. refl, λ b. refl, λ b bs. refl)
      (next 50 (refl, refl, refl, λ n. refl, λ b. refl, λ b bs. refl)
      (next 51 (refl, refl, refl, λ n. refl, λ b. refl, λ b bs. refl)
      (next 52 (refl, refl, refl, λ n. refl, λ b. refl, λ b bs. refl)
      (next 53 (refl, refl, refl, λ n. refl, λ b. refl, λ b bs. refl) (next 54 (refl, refl, refl, λ n. refl, λ b. refl, λ b bs. refl) (λ h. absurd (omega arith))))))))))))))))))))))))))) low

  latest_kind : 56 ≤ x.kind → x.kind ≤ 59 → ByKind w m k q x
  unfolding command_of
  latest_kind low top =
      (next 56 (refl, refl, refl, λ n. refl, λ b. refl, λ b bs. refl)
      (next 57 (refl, refl, refl, λ n. refl, λ b. refl, λ b bs. refl)
      (next 58 (refl, refl, refl, λ n. refl, λ b. refl, λ b bs. refl) (next 59 (refl, refl, refl, λ n. refl, λ b. refl, λ b bs. refl) (λ h. absurd (omega arith)))))) low

  -- a kind that is not named
  other_kind : known x.kind ≡ false → ByKind w m k q x
  other_kind e = rw (unknown x e) (quiet (x.kind == 0) refl)
    where
      unlike : (n : ℕ) → known n ≡ true → x.kind ≢ n
      unlike n h i = tf (sym h ∙ sym (ap known i) ∙ e)

      quiet : (t : Bool) → (x.kind == 0) ≡ t → (call_sets k x ≡ false) × (call_ends k q m.line.place 0 x ≡ false) × (call_names k x ≡ false) × ((n : Name) → call_gives k n x ≡ false)
          × ((b : ℕ) → ((x.kind == 58) ⇒ x.a else b) ≡ b) × ((b : ℕ) (bs : List ℕ) → call_signs b m.line.place 0 x bs ≡ bs)
      quiet true z =
          let i = eqb-true x.kind 0 z in (
            rw (ne_eqb x.kind 17 (omega (arith, i))),
            rw (ne_eqb 17 x.kind (omega (arith, i)), ne_eqb 18 x.kind (omega (arith, i)), ne_eqb x.kind 22 (omega (arith, i)), lt-leb 1 x.kind (omega (arith, i))),
            rw (ne_eqb x.kind 56 (omega (arith, i))),
            λ n. rw (ne_eqb x.kind 56 (omega (arith, i))),
            λ b. rw (ne_eqb x.kind 58 (omega (arith, i))),
            λ b bs. rw (ne_eqb x.kind 22 (omega (arith, i)), lt-leb 1 x.kind (omega (arith, i))),
          )
      quiet false z =
          let i = eqb-false x.kind 0 z in
          let j : 22 < x.kind =
          leb-false x.kind 22
          (sym (ap (λ (t : Bool). t && leb x.kind 22) (le-leb 1 x.kind (omega arith))) ∙ (or_none (within 1 22 x.kind) (within 30 54 x.kind || within 56 59 x.kind)
          e).0) in (
            rw (ne_eqb x.kind 17 (omega arith)),
            rw (ne_eqb 17 x.kind (omega arith), ne_eqb 18 x.kind (omega arith), ne_eqb x.kind 22 (omega arith), le-leb 1 x.kind (omega arith), lt-leb x.kind 16 (omega arith)),
            rw (ne_eqb x.kind 56 (unlike 56 refl)),
            λ n. rw (ne_eqb x.kind 56 (unlike 56 refl)),
            λ b. rw (ne_eqb x.kind 58 (unlike 58 refl)),
            λ b bs. rw (ne_eqb x.kind 22 (omega arith), le-leb 1 x.kind (omega arith), lt-leb x.kind 16 (omega arith)),
          )

  each_kind : ByKind w m k q x
  each_kind = by_kind x (ByKind w m k q x) (λ l h. first (leb x.kind 16) refl l h) late_kind latest_kind other_kind
    where
      first : (t : Bool) → leb x.kind 16 ≡ t → 1 ≤ x.kind → x.kind ≤ 22 → ByKind w m k q x
      first true e l h = change_kind (rw (le-leb 1 x.kind l, e))
      first false e l h = let i = leb-false x.kind 16 e in history_kind h (omega arith)

  -- ---- events

  pub sets_is : sets_mark k (event_of w m x) ≡ (((answer w m x).code == 0) && sets_by (deed_of w (command_of x) m).effect k)
  sets_is = ap (λ (t : Bool). ((answer w m x).code == 0) && t) each_kind.0

  pub ends_is : ends_mark k q (event_of w m x) ≡ (((answer w m x).code == 0) && ends_by (deed_of w (command_of x) m).effect k q m.line.place)
  ends_is = go (refusal w m (command_of x) == 0) refl
    where
      go : (t : Bool) → (refusal w m (command_of x) == 0) ≡ t →
          ends_mark k q (event_of w m x) ≡ (((answer w m x).code == 0) && ends_by (deed_of w (command_of x) m).effect k q m.line.place)
      go true f =
          ap (λ (n : ℕ). ((answer w m x).code == 0) && call_ends k q m.line.place n x) (number_is w m (command_of x) f)
          ∙ ap (λ (t : Bool). ((answer w m x).code == 0) && t) each_kind.1
      go false f = rw (code_is w m (command_of x) false f)

  pub renames_is : names_mark k (event_of w m x) ≡ (((answer w m x).code == 0) && renames_by (deed_of w (command_of x) m).effect k)
  renames_is = ap (λ (t : Bool). ((answer w m x).code == 0) && t) each_kind.2

  pub gives_is : (n : Name) → gives_name k n (event_of w m x) ≡ (((answer w m x).code == 0) && names_by (deed_of w (command_of x) m).effect k n)
  gives_is n = ap (λ (t : Bool). ((answer w m x).code == 0) && t) (each_kind.3 n)

  pub benches_is : (b : ℕ) → (sets_bench (event_of w m x) ⇒ x.a else b) ≡ (((answer w m x).code == 0) ⇒ bench_by (deed_of w (command_of x) m).effect b else b)
  benches_is b = go ((answer w m x).code == 0)
    where
      go : (t : Bool) → ((t && (x.kind == 58)) ⇒ x.a else b) ≡ (t ⇒ bench_by (deed_of w (command_of x) m).effect b else b)
      go true = each_kind.4 b
      go false = refl

  pub signs_is : (b : ℕ) (bs : List ℕ) → signs b (event_of w m x) bs ≡ (((answer w m x).code == 0) ⇒ signs_by (deed_of w (command_of x) m).effect b m.line.place bs else bs)
  signs_is b bs = go (refusal w m (command_of x) == 0) refl
    where
      go : (t : Bool) → (refusal w m (command_of x) == 0) ≡ t →
          signs b (event_of w m x) bs ≡ (((answer w m x).code == 0) ⇒ signs_by (deed_of w (command_of x) m).effect b m.line.place bs else bs)
      go true f =
          ap (λ (n : ℕ). ((answer w m x).code == 0) ⇒ call_signs b m.line.place n x bs else bs) (number_is w m (command_of x) f)
          ∙ ap (λ (l : List ℕ). ((answer w m x).code == 0) ⇒ l else bs) (each_kind.5 b bs)
      go false f = rw (code_is w m (command_of x) false f)
