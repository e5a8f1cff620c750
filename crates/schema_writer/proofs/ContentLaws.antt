-- How a type is written, from the automaton that was read of its expression.
use mathlib.Core.Path.{◌≡◌, refl, ap, ◌∙◌}
use mathlib.Core.Bool.{Bool, true, false, not, ◌||◌, ◌&&◌, cond}
use mathlib.Core.List.{List}
use Prim.Native.Nat.{ℕ, suc, ◌+◌, ◌-◌, ◌≤◌, ◌<◌}
use native.Mathlib.Numerals.{add-one}
use native.Mathlib.Omega.{arith}
use lib.Dec.{T}
use lib.ListN.{length, get_or}
use Rattle.std.specs.Prelude.{Some, None, Result, Ok, Err}
use Rattle.std.specs.Result.{result_ok}
use Rattle.sdtd.specs.declared.Refusal.{Refusal}
use Rattle.command.specs.declared.Command.{Command}
use Rattle.expression.specs.Content.{Content, broken, whole, content_at}
use Rattle.expression.specs.declared.content.Automaton.{Automaton}
use Rattle.expression.proofs.WholeContents.{rise_most, whole_content}
use Rattle.commands.specs.Laying.{names_from}
use Rattle.commands.proofs.ExpressionReads.{Found, names_told}
use Rattle.schema_writer.specs.Left.{names_dropped, begins_expression}
use Rattle.schema_writer.specs.Laying.{past_content, past_states}

-- the uses from q on: the first of them, and those after it
module _ (kept : ℕ → Bool) (types places : List ℕ) (uses q : ℕ) (l : q ≤ uses) where
  abbrev dropped_from : ℕ → Bool
  dropped_from s = names_dropped kept (names_from types places s (uses + 1 - s))

  first_use : dropped_from q ≡ (not (kept (get_or types q 0)) || dropped_from (q + 1))
  unfolding names_from
  first_use =
      let n : uses + 1 - q ≡ suc (uses + 1 - suc q) = omega arith in
      rw (add-one q, n)

  pub first_dropped : not (kept (get_or types q 0)) ≡ true → dropped_from q ≡ true
  first_dropped e = first_use ∙ rw e

  pub first_kept : not (kept (get_or types q 0)) ≡ false → dropped_from q ≡ dropped_from (q + 1)
  first_kept e = first_use ∙ rw e

-- an expression that was read whole ends inside the file
pub ends_inside : {file : List ℕ} {i : ℕ} {a : Automaton} → Found file i a → a.end < length file
ends_inside {file} {i} f = rw f.same (whole_content file i f.content).ends

-- the automaton that was read, if one was
pub read_ok : (r : Result Automaton Refusal) {a : Automaton} → result_ok r ≡ Some a → r ≡ Ok a
read_ok (Ok b) {a} e = let s : b ≡ a = cc in ap (λ (x : Automaton). Ok x) s
read_ok (Err e) h = cc

-- how a type is written whose expression was read
pub past_whole : (kept : ℕ → Bool) {file : List ℕ} {i : ℕ} {a : Automaton} → Found file i a → {b : Bool}
    → b ≡ names_dropped kept (names_from a.types a.places 1 a.uses) → cond b (Some (a.end + 1)) None ≡ past_content kept (content_at file i)
past_whole kept {file} {i} f t = rw (t, f.content, f.same, names_told (whole_content file i f.content)) refl

-- A type that is written by its states ends inside the file.
module _ (kept : ℕ → Bool) (file : List ℕ) (next : ℕ) where
  content_ends : (k : Content) → content_at file next ≡ k → {p : ℕ} → past_content kept k ≡ Some p → (next < p) × (p ≤ length file)
  content_ends (broken n p) e h = let z : ◌≡◌ {A = ℕ} 0 1 = cc in absurd (omega arith)
  content_ends (whole x names p) e h = by_names (names_dropped kept names) h
    where
      by_names : {q : ℕ} (b : Bool) → cond b (Some (p + 1)) None ≡ Some q → (next < q) × (q ≤ length file)
      by_names {q} true h =
          let s : p + 1 ≡ q = cc in
          let w = whole_content file next e in
          (omega (arith, rise_most next names p w.rises), omega (arith, w.ends))
      by_names false h = let z : ◌≡◌ {A = ℕ} 0 1 = cc in absurd (omega arith)

  pub states_end : (a : ℕ) (c : Command) {p : ℕ} → past_states kept file next a c ≡ Some p → (next < p) × (p ≤ length file)
  states_end a c h = by_test (begins_expression c && kept a) h
    where
      by_test : {p : ℕ} (b : Bool) → cond b (past_content kept (content_at file next)) None ≡ Some p → (next < p) × (p ≤ length file)
      by_test true h = content_ends (content_at file next) refl h
      by_test false h = let z : ◌≡◌ {A = ℕ} 0 1 = cc in absurd (omega arith)

  -- .. and is kept
  pub states_kept : (a : ℕ) (c : Command) {p : ℕ} → past_states kept file next a c ≡ Some p → T (kept a)
  states_kept a c h = by_test (begins_expression c) (kept a) h
    where
      by_test : {p : ℕ} (b d : Bool) → cond (b && d) (past_content kept (content_at file next)) None ≡ Some p → T d
      by_test true true h = tt
      by_test true false h = let z : ◌≡◌ {A = ℕ} 0 1 = cc in absurd (omega arith)
      by_test false d h = let z : ◌≡◌ {A = ℕ} 0 1 = cc in absurd (omega arith)
