-- A file with one ROOT and only old commands, which all pass, has at most 8,389 bytes.
use mathlib.Core.Path.{◌≡◌, refl, sym, ap, subst, ◌∙◌}
use mathlib.Core.Logic.{inl, inr, ◌≢◌}
use mathlib.Core.Bool.{cond}
use Rattle.std.specs.Prelude.{Option, Some, None}
use mathlib.Core.List.Memᴰ
use mathlib.Core.List.{List, [], ◌∷◌, ◌++◌, append-nil, append_assoc, Memᴰ}
use Prim.Native.Nat.{ℕ, ◌+◌, ◌-◌, ◌*◌, ◌^◌, ◌≤◌, ◌<◌, min}
use native.Mathlib.Omega.{arith}
use lib.Dec.{T, eqb}
use lib.ListN.{length}
use Rattle.sdtd.specs.Schema.{step}
use Rattle.sdtd.specs.Schema.{Step as StepOf}
use Rattle.schema.specs.States.{member, insert, members, no_states}
use Rattle.schema.proofs.Bits.{insert_below, member-insert, members_most, absent, absent_falls}
use Rattle.command.specs.Cases.{on_root}
use Rattle.command.specs.Command.{is_old, bytes_of, file_of, size, command_at}
use Rattle.command.proofs.CommandLaws.{file_append, length_more, read_back}
use Rattle.expression.proofs.CommandTests.{command_past}
use Rattle.expression.proofs.WholeContents.{first_command}
use Rattle.sdtd.specs.Limits.{most_states}
use Rattle.commands.specs.Questions.{rank}
use Rattle.commands.specs.declared.phase.Phase.TheVariants.{BeforeTypes, InBlock, InExpression, AfterRoot}
use Rattle.commands.specs.File.{Draft, Stated, current, step_count, with_final, with_step, in_current, after, states, commands, root_count}
use Rattle.commands.specs.File.{OldWithOneRoot, most_bytes}
use Rattle.command.specs.declared.Command.{Command}
use Rattle.command.specs.declared.Command.TheVariants.{Tags, TypeBlock, Final, Step, Root, Nil, Done, Expression}
use Rattle.commands.proofs.Passing.{Passed, Kept, kept_to_end}
use Rattle.commands.proofs.StatedLimits.{Each, DraftWithin, StatedWithin, nothing_within, type_phase, within_kept}

-- a new state makes a set longer
more_members : (q x : ℕ) → q < most_states → x < 2 ^ most_states → ¬ T (member q x) → length (members x) < length (members (insert q x))
unfolding absent
more_members q x l b new =
    let grows : (s : ℕ) → T (member s x) → T (member s (insert q x)) = λ s m. (member-insert q s x b).1 (inl m) in
    let own = (member-insert q q x b).1 (inr (refl, l)) in
    let other : x ≢ insert q x = λ e. new (subst (λ (y : ℕ). T (member q y)) (sym e) own) in
    omega (arith, absent_falls x (insert q x) b (insert_below q x b) grows other)

-- the bytes of the blocks' commands: 3 for each TYPE, 2 for each accepting state and 4 for each step
abbrev bytes_in : List Draft → ℕ
bytes_in [] = 0
bytes_in (d ∷ ds) = bytes_in ds + (3 + 2 * length (members d.accepting) + 4 * length d.steps)

bytes_most : (ds : List Draft) → bytes_in ds ≤ (3 + 2 * most_states) * length ds + 4 * step_count ds
bytes_most [] = omega arith
bytes_most (d ∷ ds) = omega (arith, bytes_most ds, members_most most_states d.accepting)

-- the bytes of TAGS, of r ROOTs and of DONE, as far as the file has them at the n-th phase
abbrev other_bytes : ℕ → ℕ → ℕ
other_bytes n r = 2 * min n (rank BeforeTypes) + 2 * r + min (n - rank AfterRoot) 1

-- before DONE none of its own
before_done : (n r : ℕ) → rank BeforeTypes ≤ n → n ≤ rank AfterRoot → other_bytes n r ≡ 2 + 2 * r
before_done n r l m = omega arith

-- The commands before the place i have no more bytes than what is stated tells.
record Counted (i : ℕ) (g : Stated) : Type 0 where
  within : StatedWithin g
  bytes : i ≤ other_bytes (rank g.phase) (length g.roots) + bytes_in g.blocks

-- the place i stands between two of the commands, behind r ROOTs
record Between (cs : List Command) (i r : ℕ) : Type 0 where
  before : List Command
  after : List Command
  split : cs ≡ before ++ after
  place : i ≡ length (file_of before)
  roots : r ≡ root_count before

-- a FINAL that is new counts 2, a STEP 4
final_bytes : {tags : ℕ} (q : ℕ) (ds : List Draft) → Each (DraftWithin tags) ds → q < (current ds).states
    → ¬ T (member q (current ds).accepting) → bytes_in ds + 2 ≤ bytes_in (in_current (with_final q) ds)
final_bytes q [] every l new = absurd (omega arith)
final_bytes q (d ∷ ds) every l new =
    let h = every d (Memᴰ.head refl) in
    omega (arith, more_members q d.accepting (omega arith) h.below new)

step_bytes : (s : StepOf) (ds : List Draft) → s.from < (current ds).states → bytes_in ds + 4 ≤ bytes_in (in_current (with_step s) ds)
step_bytes s [] l = absurd (omega arith)
step_bytes s (d ∷ ds) l = omega arith

-- each old command that passes its questions counts its bytes
counted : (i : ℕ) (g : Stated) (c : Command) → T (is_old c) → Passed g c → StatedWithin g
    → i ≤ other_bytes (rank g.phase) (length g.roots) + bytes_in g.blocks
    → i + size c ≤ other_bytes (rank (after g i c).phase) (length (after g i c).roots) + bytes_in (after g i c).blocks
unfolding after
counted i g (Tags n) old p h l = omega arith
counted i g (TypeBlock t s) old p h l =
    let o = type_phase s in
    let r = length g.roots in
    let before = before_done (rank g.phase) r p.0 (omega arith) in
    let behind = before_done (rank (cond (eqb s 0) InExpression InBlock)) r (omega arith) (omega arith) in
    rw behind (one_more r (bytes_in g.blocks) (rw before at l))
  where
    one_more : (r n : ℕ) → i ≤ 2 + 2 * r + n → i + 3 ≤ 2 + 2 * r + (n + (3 + 2 * length (members no_states) + 4 * 0))
    one_more r n l = omega arith
counted i g (Final q) old p h l = omega (arith, final_bytes q g.blocks h.blocks p.1 p.2)
counted i g (Step x j y) old p h l = omega (arith, step_bytes (step x j.0 y) g.blocks p.1)
counted i g (Root a) old p h l = omega arith
counted i g Nil old p h l = absurd old
counted i g Done old p h l = omega arith
counted i g (Expression x) old p h l = absurd p

-- a ROOT that passes its questions is one root more, and no other command is
roots-after : (i : ℕ) (g : Stated) (c : Command) → length (after g i c).roots ≡ length g.roots + on_root (λ a. 1) 0 c
unfolding after
roots-after i g (Tags n) = omega arith
roots-after i g (TypeBlock t s) = omega arith
roots-after i g (Final q) = omega arith
roots-after i g (Step p j q) = omega arith
roots-after i g (Root a) = omega arith
roots-after i g Nil = omega arith
roots-after i g Done = omega arith
roots-after i g (Expression x) = omega arith

pub roots_append : (cs ds : List Command) → root_count (cs ++ ds) ≡ root_count cs + root_count ds
roots_append [] ds = omega arith
roots_append (c ∷ cs) ds = omega (arith, roots_append cs ds)

-- the command at such a place is the next of them, and the place behind it is one
module _ (cs : List Command) (every : (c : Command) → Memᴰ c cs → T (is_old c)) where
  -- the next command, if there is one, is old, and the place behind it stands between two
  abbrev Onward : ℕ → ℕ → Option Command → Type 0
  Onward i r None = Unit
  Onward i r (Some c) = T (is_old c) × Between cs (i + size c) (r + on_root (λ a. 1) 0 c)

  next_command : (i r : ℕ) → Between cs i r → Onward i r (command_at (file_of cs) i)
  next_command i r b = go b.after b.split
    where
      go : (rest : List Command) → cs ≡ b.before ++ rest → Onward i r (command_at (file_of cs) i)
      go [] e = rw (command_past (file_of cs) i (rw (b.place, e, append-nil b.before) (omega arith))) tt
      go (d ∷ ds) e =
          let old = every d (rw e (Memᴰ.append_right b.before (Memᴰ.head refl))) in
          let f : file_of cs ≡ file_of b.before ++ (bytes_of d ++ file_of ds) = rw (e, file_append b.before (d ∷ ds)) (unfold file_of in refl) in
          let q : command_at (file_of cs) i ≡ Some d = rw b.place (read_back (file_of b.before) (file_of ds) d f) in
          rw q (
            old,
            record {
              before = b.before ++ (d ∷ []);
              after = ds;
              split = e ∙ sym (append_assoc b.before (d ∷ []) ds);
              place = rw (length_more b.before d) (ap (λ (n : ℕ). n + size d) b.place);
              roots = omega (arith, b.roots, roots_append b.before (d ∷ []));
            },
          )

  counted_kept : Kept (file_of cs) (λ i g. Counted i g × Between cs i (length g.roots))
  counted_kept =
      record {
        by_command = λ i g c e p h.
            let w = h.0.within in
            let o : Onward i (length g.roots) (Some c) = rw e at (next_command i (length g.roots) h.1) in (
              record { within = within_kept i g c p w; bytes = counted i g c o.0 p w h.0.bytes },
              rw (roots-after i g c) o.1,
            );
        by_expression = λ i g e ns p r h.
            let f = first_command (file_of cs) i r.content in
            let o : Onward i (length g.roots) (Some (Expression f.part)) = rw f.is at (next_command i (length g.roots) h.1) in
            absurd o.0;
      }

-- "The longest accepted file has 8,389 bytes", of files with one ROOT and only the old commands.
pub longest : (file : List ℕ) → OldWithOneRoot file → (g : Stated) → commands file ≡ states g → length file ≤ most_bytes
longest file o g e =
    let f = o.bytes in
    let r = kept_to_end (file_of o.given) (counted_kept o.given o.old) (rw f at e) (
      record { within = nothing_within; bytes = omega arith },
      record { before = []; after = o.given; split = refl; place = unfold file_of in refl; roots = refl },
    ) in
    let b = r.holds.1 in
    let one : length g.roots ≤ 1 = omega (arith, b.roots, o.one_root, ap root_count b.split, roots_append b.before b.after) in
    rw f (omega (arith, bytes_most g.blocks))
