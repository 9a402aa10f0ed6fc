-- Roles of calls.
use Rattle.std.specs.Prelude.{◌==◌}
use Prim.Native.Nat.{ℕ}
use mathlib.Core.Path.{◌≡◌, refl, sym, ap, subst, ◌∙◌}
use mathlib.Core.Logic.{◌≢◌}
use mathlib.Core.Bool.{Bool, true, false}
use native.Mathlib.Omega.{arith}
use borrow.Author.Tests.{ne_eqb, eqb-false, le-leb, leb-true}
use lib.Dec.{leb}
use Rattle.lists.specs.Choice.{◌⇒◌else◌, within}
use Rattle.lists.proofs.Bools.{ft, and_true, and_both}
use Rattle.lists.proofs.Picks.{same, differ, same?}
use Rattle.commands.specs.Calls.{Call, five}
use Rattle.commands.specs.Commands.{command_of, history_of}
use Rattle.commands.specs.declared.HistoryCall.{HistoryCall}
use Rattle.commands.specs.declared.HistoryCall.TheVariants.{SetMark, DropMark, Undo, Redo, GoTo, Commit as CommitCall, Between, Standing, Free, NameMark, GoToName, SetBench, MadeBy}
use Rattle.commands.specs.declared.Command.{Command}
use Rattle.commands.specs.declared.Command.TheVariants.{Alter, History, Ask, Quote, Unknown}
use Rattle.history_calls.specs.Outcomes.{Leads}
use Rattle.copies.specs.declared.Role.TheVariants.{Move, Change, Other}
use Rattle.copies.specs.Recording.{history_role, role_of, other_role}

-- ---- the role of a call, by its kind

neither : (t : Bool) (c d : Command) → role_of c ≡ Other → role_of d ≡ Other → role_of (t ⇒ c else d) ≡ Other
neither true c d e f = e
neither false c d e f = f

no_move : (t : Bool) (h i : HistoryCall) → history_role h ≡ Other → history_role i ≡ Other → history_role (t ⇒ h else i) ≡ Other
no_move true h i e f = e
no_move false h i e f = f

some : (k : ℕ) → (k == 0) ≡ false → leb 1 k ≡ true
some k e = le-leb 1 k (let n = eqb-false k 0 e in omega (arith, n))

module _ (k a b c d : ℕ) where
  abbrev call : Call
  call = five k a b c d

  at : (n : ℕ) → k ≡ n → other_role n a b ≡ role_of (command_of (five n a b c d)) → other_role k a b ≡ role_of (command_of call)
  at n e f = subst (λ (j : ℕ). other_role j a b ≡ role_of (command_of (five j a b c d))) (sym e) f

  module _ (n19 : k ≢ 19) (n20 : k ≢ 20) (n21 : k ≢ 21) (n22 : k ≢ 22) (n57 : k ≢ 57) where
    history_other : history_role (history_of k a b c) ≡ Other
    unfolding history_of
    history_other =
        rw (ne_eqb k 19 n19, ne_eqb k 20 n20, ne_eqb k 21 n21, ne_eqb k 22 n22, ne_eqb k 57 n57)
        (no_move (k == 17) _ _ refl (no_move (k == 18) _ _ refl (no_move (k == 49) _ _ refl (no_move (k == 50) _ _ refl
        (no_move (k == 56) _ _ refl (no_move (k == 58) _ _ refl (no_move (k == 59) _ _ refl refl)))))))

    pub command_other : within 1 16 k ≡ false → other_role k a b ≡ role_of (command_of call)
    unfolding command_of
    command_other w =
        let none : other_role k a b ≡ Other = rw (ne_eqb k 19 n19, ne_eqb k 20 n20, ne_eqb k 21 n21, ne_eqb k 22 n22, ne_eqb k 57 n57) in
        none ∙ sym (go (k == 0) refl (leb k 16) refl)
      where
        go : (s : Bool) → (k == 0) ≡ s → (t : Bool) → leb k 16 ≡ t → role_of (command_of call) ≡ Other
        go true e t f = rw e
        go false e true f = ft (sym w ∙ and_both (leb 1 k) (leb k 16) (some k e) f)
        go false e false f =
            rw (e, f) (neither (leb k 22) _ _ history_other (neither (leb k 29) _ _ refl (neither (leb k 48) _ _ refl (neither (leb k 51) _ _ history_other
            (neither (k == 52) _ _ refl (neither (k == 53) _ _ refl (neither (k == 54) _ _ refl (neither (k == 55) _ _ refl
            (neither (leb k 59) _ _ history_other refl)))))))))

  -- words of no change
  pub other_role_lem : within 1 16 k ≡ false → other_role k a b ≡ role_of (command_of call)
  unfolding command_of history_of
  other_role_lem w = elim (same? k 19) [
    | same e f ↦ at 19 e refl
    | differ n19 f ↦ elim (same? k 20) [
      | same e f ↦ at 20 e refl
      | differ n20 f ↦ elim (same? k 21) [
        | same e f ↦ at 21 e refl
        | differ n21 f ↦ elim (same? k 22) [
          | same e f ↦ at 22 e refl
          | differ n22 f ↦ elim (same? k 57) [
            | same e f ↦ at 57 e refl
            | differ n57 f ↦ command_other n19 n20 n21 n22 n57 w
          ]
        ]
      ]
    ]
  ]

  -- words of a change
  pub change_role : within 1 16 k ≡ true → Change ≡ role_of (command_of call)
  unfolding command_of
  change_role w =
      let both = and_true (leb 1 k) (leb k 16) w in
      rw (ne_eqb k 0 (λ z. omega (arith, z, leb-true 1 k both.0)), both.1)

-- ---- moves

history_moves : (k h : HistoryCall) → history_role k ≡ Move h → (History k ≡ History h) × Leads h
history_moves (SetMark a) h e = absurd (let z : ◌≡◌ {A = ℕ} 0 1 = cc in omega arith)
history_moves (DropMark a) h e = absurd (let z : ◌≡◌ {A = ℕ} 0 1 = cc in omega arith)
history_moves Undo h e = let z : Undo ≡ h = cc in (ap History z, subst Leads z tt)
history_moves Redo h e = let z : Redo ≡ h = cc in (ap History z, subst Leads z tt)
history_moves (GoTo a) h e = let z : GoTo a ≡ h = cc in (ap History z, subst Leads z tt)
history_moves CommitCall h e = absurd (let z : ◌≡◌ {A = ℕ} 0 1 = cc in omega arith)
history_moves (Between a b) h e = absurd (let z : ◌≡◌ {A = ℕ} 0 1 = cc in omega arith)
history_moves Standing h e = absurd (let z : ◌≡◌ {A = ℕ} 0 1 = cc in omega arith)
history_moves Free h e = absurd (let z : ◌≡◌ {A = ℕ} 0 1 = cc in omega arith)
history_moves (NameMark a b c) h e = absurd (let z : ◌≡◌ {A = ℕ} 0 1 = cc in omega arith)
history_moves (GoToName a b) h e = let z : GoToName a b ≡ h = cc in (ap History z, subst Leads z tt)
history_moves (SetBench a) h e = absurd (let z : ◌≡◌ {A = ℕ} 0 1 = cc in omega arith)
history_moves (MadeBy a b c) h e = absurd (let z : ◌≡◌ {A = ℕ} 0 1 = cc in omega arith)

pub moves : (c : Command) (h : HistoryCall) → role_of c ≡ Move h → (c ≡ History h) × Leads h
moves (Alter x) h e = absurd (let z : ◌≡◌ {A = ℕ} 0 1 = cc in omega arith)
moves (History k) h e = history_moves k h e
moves (Ask q) h e = absurd (let z : ◌≡◌ {A = ℕ} 0 1 = cc in omega arith)
moves (Quote p) h e = absurd (let z : ◌≡◌ {A = ℕ} 0 1 = cc in omega arith)
moves Unknown h e = absurd (let z : ◌≡◌ {A = ℕ} 0 1 = cc in omega arith)
