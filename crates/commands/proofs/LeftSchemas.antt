-- Where both files end, the new one states the reduced schema, and each type that it names is given.
use mathlib.Core.Path.{◌≡◌, refl, sym, ap, subst, ◌∙◌}
use mathlib.Core.Bool.{Bool}
use mathlib.Core.List.Memᴰ
use mathlib.Core.List.{List, [], ◌∷◌, reverse, Memᴰ}
use Prim.Native.Nat.{ℕ, ◌<◌}
use native.Mathlib.Omega.{arith}
use borrow.Author.Tests.{lt-ltb, eq-eqb}
use lib.Dec.{T}
use lib.ListN.{length}
use Rattle.sdtd.specs.Reduced.{new_number, roots_left, reduced}
use Rattle.sdtd.proofs.Basics.{not_both}
use Rattle.sdtd.proofs.Reducing.{roots_left_lem}
use Rattle.command.specs.declared.Command.TheVariants.{TypeBlock, Done}
use Rattle.expression.specs.Content.{Name}
use Rattle.expression.proofs.WholeContents.{types_of}
use Rattle.commands.specs.Questions.{rank}
use Rattle.commands.specs.File.{Stated, nothing_stated, after, schema_by, unknown_in, unknown}
use Rattle.commands.specs.declared.phase.Phase.TheVariants.{AfterDone}
use Rattle.commands.proofs.Passing.{passed}
use Rattle.commands.proofs.Runs.{not_done}
use Rattle.commands.proofs.StatedLimits.{Each, each_none, mem-reverse}
use Rattle.commands.proofs.LeftDrafts.{left_count, left_blocks, roots_turned}
use Rattle.commands.proofs.LeftStanding.{early, at_end}
use Rattle.commands.proofs.LeftCommands.{Related}
use Rattle.commands.proofs.Traces.{Trace, ended, command, content}

-- before any command
pub nothing_related : (kept : ℕ → Bool) (n : ℕ) → Related kept n nothing_stated nothing_stated
unfolding roots_left
nothing_related kept n =
    record {
      tags = refl;
      blocks = record { is = refl };
      names = each_none (λ j. j < new_number kept n) [] refl;
      roots = refl;
      standing = early (omega arith) refl refl refl;
    }

-- where each name is of a type below n, none is unknown
none_unknown : (n : ℕ) (ns : List Name) → Each (λ j. j < n) (types_of ns) → unknown_in n ns ≡ []
none_unknown n [] h = refl
none_unknown n (x ∷ ns) h =
    rw (none_unknown n ns (λ j m. h j (Memᴰ.tail m)), lt-ltb x.type n (h x.type (Memᴰ.head refl)))

-- at the end
module _ {kept : ℕ → Bool} {g h : Stated} (r : Related kept (length g.blocks) g h) where
  pub related_known : unknown h ≡ []
  related_known = none_unknown (length h.blocks) h.names (rw (left_count r.blocks) r.names)

  pub related_schema : schema_by h ≡ reduced kept (schema_by g)
  unfolding schema_by reduced
  related_schema i =
      record {
        tags = r.tags i;
        blocks = left_blocks r.blocks i;
        roots = (ap reverse r.roots ∙ sym (roots_turned kept g.roots)) i;
      }

-- a root type that is kept is left
pub some_root_left : (kept : ℕ → Bool) (rs : List ℕ) (a : ℕ) → Memᴰ a (reverse rs) → T (kept a) → ¬ (roots_left kept rs ≡ [])
some_root_left kept rs a m t e =
    Memᴰ.not-nil (subst (Memᴰ (new_number kept a)) e
    ((roots_left_lem kept rs (new_number kept a)).1 (record { member = a; given = mem-reverse rs m; holds = (t, refl) })))

-- after DONE nothing more is stated
pub done_is_end : {file : List ℕ} {g g₀ : Stated} {i : ℕ} → Trace file g i g₀ → rank g₀.phase ≡ rank AfterDone → g₀ ≡ g
done_is_end (ended e d l) o = e
done_is_end {g₀ = g₀} (command c h z k t) o =
    absurd (not_both (eq-eqb (rank g₀.phase) (rank AfterDone) o) (not_done g₀ c (passed g₀ c z)))
done_is_end {g₀ = g₀} (content t e ns p h z read fits rest) o =
    let c = TypeBlock t 0 in
    absurd (not_both (eq-eqb (rank g₀.phase) (rank AfterDone) o) (not_done g₀ c (passed g₀ c z)))

-- the roots where DONE stands are those at the end
pub roots_at_done : {file : List ℕ} {g : Stated} {k : ℕ} (g₀ : Stated) (i : ℕ) → Trace file g k (after g₀ i Done) → g₀.roots ≡ g.roots
unfolding after
roots_at_done g₀ i t = ap (λ (h : Stated). h.roots) (done_is_end t refl)

-- the new file ends with the old one
pub related_end : {kept : ℕ → Bool} {n : ℕ} {g h : Stated} → Related kept n g h → rank g.phase ≡ rank AfterDone → rank h.phase ≡ rank AfterDone
related_end r o = at_end r.standing o
