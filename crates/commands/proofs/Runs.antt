-- A file of commands that pass, read command by command.
use mathlib.Core.Path.{◌≡◌, sym, ◌∙◌}
use mathlib.Core.Bool.{true, false}
use mathlib.Core.List.{List, [], ◌∷◌, ◌++◌, append-nil, append_assoc}
use Prim.Native.Nat.{ℕ, suc, ◌+◌, ◌-◌}
use native.Mathlib.Omega.{arith}
use borrow.Author.Tests.{ne_eqb}
use lib.ListN.{length, length-append}
use Rattle.command.specs.Command.{bytes_of, file_of, size}
use Rattle.command.specs.declared.Command.{Command}
use Rattle.command.specs.declared.Command.TheVariants.{Tags, TypeBlock, Final, Step, Root, Nil, Done, Expression}
use Rattle.command.proofs.CommandLaws.{size_some, file_more, length_more, read_back}
use Rattle.commands.specs.Questions.{rank, same_phase, failed}
use Rattle.commands.specs.File.{Stated, nothing_stated, seen_of, after, states, commands_from, commands}
use Rattle.commands.specs.declared.phase.Phase.TheVariants.{InExpression, AfterDone}
use Rattle.commands.proofs.Passing.{Passed, passed}
use Rattle.commands.proofs.Drafts.{fuel_enough}
use Rattle.commands.proofs.OneByOne.{goes_on, ends}

-- where a command passes, the file has not ended
pub not_done : (g : Stated) (c : Command) → Passed g c → same_phase g.phase AfterDone ≡ false
not_done g (Tags n) p = ne_eqb (rank g.phase) (rank AfterDone) (λ e. omega arith)
not_done g (TypeBlock t s) p = ne_eqb (rank g.phase) (rank AfterDone) (λ e. omega arith)
not_done g (Final q) p = ne_eqb (rank g.phase) (rank AfterDone) (λ e. omega arith)
not_done g (Step x j y) p = ne_eqb (rank g.phase) (rank AfterDone) (λ e. omega arith)
not_done g (Root a) p = ne_eqb (rank g.phase) (rank AfterDone) (λ e. omega arith)
not_done g Nil p = ne_eqb (rank g.phase) (rank AfterDone) (λ e. omega arith)
not_done g Done p = ne_eqb (rank g.phase) (rank AfterDone) (λ e. omega arith)
not_done g (Expression x) p = absurd p

-- nor is an expression next
pub not_inside : (g : Stated) (c : Command) → Passed g c → same_phase g.phase InExpression ≡ false
not_inside g (Tags n) p = ne_eqb (rank g.phase) (rank InExpression) (λ e. omega arith)
not_inside g (TypeBlock t s) p = ne_eqb (rank g.phase) (rank InExpression) p.2
not_inside g (Final q) p = ne_eqb (rank g.phase) (rank InExpression) (λ e. omega arith)
not_inside g (Step x j y) p = ne_eqb (rank g.phase) (rank InExpression) (λ e. omega arith)
not_inside g (Root a) p = ne_eqb (rank g.phase) (rank InExpression) p.2
not_inside g Nil p = ne_eqb (rank g.phase) (rank InExpression) p.2
not_inside g Done p = ne_eqb (rank g.phase) (rank InExpression) (λ e. omega arith)
not_inside g (Expression x) p = absurd p

-- one turn, at a command's bytes
turn_at : (before rest : List ℕ) (g : Stated) (c : Command) {file : List ℕ} → file ≡ before ++ (bytes_of c ++ rest)
    → failed (seen_of g c) c ≡ 0
    → commands_from (suc (length file - length before)) file (length before) g
    ≡ commands_from (suc (length file - (length before + size c))) file (length before + size c) (after g (length before) c)
turn_at before rest g c {file} e z =
    let i = length before in
    let l : length file ≡ i + (size c + length rest) = rw (e, length-append, length-append) in
    let s = size_some c in
    goes_on (length file - i) file i g (not_done g c (passed g c z)) (not_inside g c (passed g c z)) (read_back before rest c e) z
    ∙ fuel_enough file (length file - i) (suc (length file - (i + size c))) (i + size c) (after g i c) (omega arith) (omega arith)

-- In each file that begins with the bytes of the commands, they pass and state g.
pub record CommandsPass (cs : List Command) (g : Stated) : Type 0 where
  pub pass : (file rest : List ℕ) → file ≡ file_of cs ++ rest
      → commands file ≡ commands_from (suc (length file - length (file_of cs))) file (length (file_of cs)) g

pub pass_none : CommandsPass [] nothing_stated
unfolding commands file_of
pass_none = record { pass = λ file rest e. let z : length file - 0 ≡ length file = omega arith in rw z }

-- one command more that passes
pub pass_more : {cs : List Command} {g : Stated} (c : Command) → CommandsPass cs g → failed (seen_of g c) c ≡ 0
    → CommandsPass (cs ++ (c ∷ [])) (after g (length (file_of cs)) c)
pass_more {cs} {g} c r z =
    record {
      pass = λ file rest e.
          let f : file ≡ file_of cs ++ (bytes_of c ++ rest) = e ∙ rw (file_more cs c, append_assoc) in
          rw (length_more cs c) (r.pass file (bytes_of c ++ rest) f ∙ turn_at (file_of cs) rest g c f z);
    }

-- the commands are the whole file
pub pass_all : {cs : List Command} {g : Stated} → CommandsPass cs g → same_phase g.phase AfterDone ≡ true → commands (file_of cs) ≡ states g
pass_all {cs} {g} r p =
    let file = file_of cs in
    r.pass file [] (sym (append-nil file)) ∙ ends (length file - length file) file (length file) g p (omega arith)
