-- What the writer's answer says: of a file that is written, all that its promise has; and that each file and buffer has one outcome.
use mathlib.Core.Path.{◌≡◌, refl, sym, ap, subst, ◌∙◌, fun_ext}
use mathlib.Core.Logic.{inl, inr, ⊎_elim}
use mathlib.Core.Bool.{Bool}
use mathlib.Core.List.{List, [], ◌∷◌, ◌++◌}
use Prim.Native.Nat.{ℕ, suc, ◌≤◌}
use native.Mathlib.Omega.{arith}
use lib.ListN.{length, drop, length-append}
use Rattle.sdtd.specs.Schema.{Schema}
use Rattle.sdtd.specs.Trim.{SomeRootBears}
use Rattle.sdtd.specs.Competition.{Competition}
use Rattle.sdtd.specs.Reduced.{TellsUsed}
use Rattle.sdtd.specs.Answer.{Ordered}
use Rattle.sdtd.specs.Output.{Output, written_length, writes, writes_nothing, FileWritten, Length, Refused}
use Rattle.sdtd.proofs.Basics.{same_test, none_decided}
use Rattle.sdtd.proofs.Answers.{ordered_unique, ordered_exists}
use Rattle.sdtd.proofs.Tests.{to_dec, le_means}
use Rattle.sdtd.proofs.Roots.{some_root_bears_means}
use Rattle.sdtd.proofs.LiveStates.{live_table}
use Rattle.sdtd.proofs.Competing.{restrained_decided}
use Rattle.sdtd.proofs.UsedAsked.{used_test}
use Rattle.command.specs.Command.{file_of}
use Rattle.commands.specs.File.{Stated, Commands, stopped, states, commands, schema_by, unknown}
use Rattle.schema_writer.specs.Left.{commands_left}
use Rattle.schema_writer.specs.Answer.{ReducedFile, stored_asked, room_asked, Writes, OutputBy, WriteMeans}

-- one more than a refusal's number, 0 where there is none
abbrev refusal_in : FileWritten → ℕ
refusal_in (Length n) = 0
refusal_in (Refused n) = suc n

-- a length is no refusal
not_refused : {A : Type 0} (o : Output) {n m : ℕ} (was : List ℕ) → o.answer ≡ Length n → o ≡ writes_nothing was m → A
not_refused o {n} {m} was a e =
    let z : ◌≡◌ {A = ℕ} 0 (suc m) = ap refusal_in (sym a) ∙ ap (λ (x : Output). refusal_in x.answer) e in
    absurd (omega arith)

-- What is known where a length is answered: the file passes the questions until 9, and its bytes without the unused types are in the buffer.
pub record WrittenOf (file was is : List ℕ) (n : ℕ) : Type 0 where
  pub stated : Stated
  pub passes : commands file ≡ states stated
  pub known : unknown stated ≡ []
  pub bears : SomeRootBears (schema_by stated)
  pub restrained : ¬ Competition (schema_by stated)
  pub bytes : List ℕ
  pub reduced : ReducedFile file (schema_by stated) bytes
  pub fits : length bytes ≤ length was
  pub count : n ≡ length bytes
  pub buffer : is ≡ bytes ++ drop (length bytes) was

module _ (file was is : List ℕ) (n : ℕ) where
  abbrev answered : Output
  answered = record { answer = Length n; buffer = is }

  by_commands : (k : Commands) → commands file ≡ k → OutputBy file k was answered → WrittenOf file was is n
  by_commands (stopped m p) e o = not_refused answered was refl o
  by_commands (states g) e (inl o) = not_refused answered was refl o.1
  by_commands (states g) e (inr (known, inl o)) = not_refused answered was refl o.1
  by_commands (states g) e (inr (known, inr (bears, inl o))) = not_refused answered was refl o.1
  by_commands (states g) e (inr (known, inr (bears, inr (free, w)))) =
      ⊎_elim (λ o. not_refused answered was refl o.1)
      (λ o.
      record {
        stated = g;
        passes = e;
        known = known;
        bears = bears;
        restrained = free;
        bytes = w.bytes;
        reduced = w.reduced;
        fits = o.0;
        count = ap (λ (x : Output). written_length x.answer) o.1;
        buffer = ap (λ (x : Output). x.buffer) o.1;
      }) w.output

  pub written_of : WriteMeans file was is (Length n) → WrittenOf file was is n
  written_of m = by_commands (commands file) refl m

-- the length that is answered is inside the buffer, which keeps its length
pub length_inside : (file was is : List ℕ) {r : FileWritten} {n : ℕ} → WriteMeans file was is r → r ≡ Length n → n ≤ length is
length_inside file was is {r} {n} m e =
    let w = written_of file was is n (subst (WriteMeans file was is) e m) in
    let b = w.bytes in
    omega (arith, w.count, ap length w.buffer, length-append b (drop (length b) was))

-- two tests that tell the used types of one schema are one
pub one_test : {S : Schema} (kept other : ℕ → Bool) → TellsUsed S kept → TellsUsed S other → kept ≡ other
one_test kept other t u = fun_ext (λ a. same_test (kept a) (other a) (λ k. (u a).1 ((t a).0 k)) (λ k. (t a).1 ((u a).0 k)))

-- so the bytes are one
pub one_file : {file : List ℕ} {S : Schema} {bytes others : List ℕ} → ReducedFile file S bytes → ReducedFile file S others → bytes ≡ others
one_file {file} {S} r s =
    r.is ∙ ap (λ (kept : ℕ → Bool). file_of (commands_left kept S file)) (one_test r.kept s.kept r.tells_used s.tells_used) ∙ sym s.is

-- what is written of a file that passes: at most one outcome, and there is one
writes_unique : (file : List ℕ) (S : Schema) (was : List ℕ) {o p : Output} → Writes file S was o → Writes file S was p → o ≡ p
writes_unique file S was {o} {p} u v =
    let same = one_file v.reduced u.reduced in
    let own = subst (λ (b : List ℕ). Ordered (room_asked was b ∷ []) (λ x. x ≡ writes was b) p) same v.output in
    ordered_unique (λ x. x ≡ writes was u.bytes) (room_asked was u.bytes ∷ []) (λ all x y. x ∙ sym y) u.output own

writes_exists : (file : List ℕ) (S : Schema) (was : List ℕ) → (o : Output) × Writes file S was o
writes_exists file S was =
    let t = used_test S in
    let bytes = file_of (commands_left t.0 S file) in
    let o = ordered_exists (λ x. x ≡ writes was bytes) (room_asked was bytes ∷ []) (to_dec (le_means (length bytes) (length was)), λ l. (writes was bytes, refl)) in
    (o.0, record { bytes = bytes; reduced = record { kept = t.0; tells_used = t.1; is = refl }; output = o.1 })

-- each file and buffer has exactly one outcome
outcome_unique : (file : List ℕ) (k : Commands) (was : List ℕ) {o p : Output} → OutputBy file k was o → OutputBy file k was p → o ≡ p
outcome_unique file (stopped n q) was u v = u ∙ sym v
outcome_unique file (states g) was u v =
    ordered_unique (Writes file (schema_by g) was) (stored_asked was g) (λ all x y. writes_unique file (schema_by g) was x y) u v

outcome_exists : (file : List ℕ) (k : Commands) (was : List ℕ) → (o : Output) × OutputBy file k was o
outcome_exists file (stopped n q) was = (writes_nothing was n, refl)
outcome_exists file (states g) was =
    ordered_exists (Writes file (schema_by g) was) (stored_asked was g) (
      none_decided (unknown g),
      λ known. (
        to_dec (some_root_bears_means (live_table (schema_by g)).1),
        λ bears. (restrained_decided (schema_by g), λ free. writes_exists file (schema_by g) was),
      ),
    )

pub one_outcome : (file was : List ℕ)
    → (o : Output) × OutputBy file (commands file) was o × ((p : Output) → OutputBy file (commands file) was p → p ≡ o)
one_outcome file was =
    let r = outcome_exists file (commands file) was in
    (r.0, r.1, λ p s. outcome_unique file (commands file) was s r.1)
