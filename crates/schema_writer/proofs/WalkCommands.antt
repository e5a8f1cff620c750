-- Small laws of the walk over a file: the TYPEs so far, commands with other types, and the types that an expression names.
use mathlib.Core.Path.{◌≡◌, refl, sym, subst}
use mathlib.Core.Bool.{Bool, true, false, true≢false, not, ◌||◌}
use mathlib.Core.List.{List, [], ◌∷◌, reverse, reverse-reverse, Memᴰ}
use Prim.Native.Nat.{ℕ, ◌+◌, ◌<◌}
use native.Mathlib.Omega.{arith}
use lib.Dec.{T}
use lib.ListN.{length}
use Rattle.sdtd.specs.Schema.{step}
use Rattle.sdtd.proofs.Basics.{is_true}
use Rattle.command.specs.Relabelled.{relabel_command}
use Rattle.command.specs.declared.Command.{Command}
use Rattle.command.specs.declared.Command.TheVariants.{Tags, TypeBlock, Final, Step, Root, Nil, Done, Expression}
use Rattle.expression.specs.Expression.{Expression as Exp}
use Rattle.expression.specs.Content.{Name}
use Rattle.expression.proofs.WholeContents.{types_of}
use Rattle.commands.specs.File.{Stated, with_final, with_step, with_nil, after, after_expression, unknown}
use Rattle.commands.proofs.TableLaws.{same_count}
use Rattle.commands.proofs.StatedLimits.{Each, each_none, each_more, mem-reverse}
use Rattle.commands.proofs.Traces.{Trace, opens_expression}
use Rattle.commands.proofs.TraceLaws.{type_known}
use Rattle.schema_writer.specs.Left.{type_count, names_dropped}

-- how many TYPEs there are after a command
pub counted : (g : Stated) (i : ℕ) (c : Command) → type_count c + length g.blocks ≡ length (after g i c).blocks
unfolding after
counted g i (Tags n) = omega arith
counted g i (TypeBlock t s) = omega arith
counted g i (Final q) = omega (arith, same_count (with_final q) g.blocks)
counted g i (Step p j q) = omega (arith, same_count (with_step (step p j.0 q)) g.blocks)
counted g i (Root a) = omega arith
counted g i Nil = omega (arith, same_count with_nil g.blocks)
counted g i Done = omega arith
counted g i (Expression x) = omega arith

-- a command with other types opens an expression or not, as before
pub opens_same : (image : ℕ → ℕ) (c : Command) → opens_expression c ≡ false → opens_expression (relabel_command image c) ≡ false
opens_same image (Tags n) o = o
opens_same image (TypeBlock t s) o = o
opens_same image (Final q) o = o
opens_same image (Step p j q) o = o
opens_same image (Root a) o = o
opens_same image Nil o = o
opens_same image Done o = o
opens_same image (Expression x) o = o

-- where no name is of a dropped type, each is of a kept one
pub none_dropped : (kept : ℕ → Bool) (ns : List Name) → names_dropped kept ns ≡ false → Each (λ j. T (kept j)) (types_of ns)
none_dropped kept [] e = each_none (λ j. T (kept j)) [] refl
none_dropped kept (x ∷ ns) e = go (kept x.type) refl (none_dropped kept ns) e
  where
    go : (b : Bool) → kept x.type ≡ b → (names_dropped kept ns ≡ false → Each (λ j. T (kept j)) (types_of ns))
        → (not b || names_dropped kept ns) ≡ false → Each (λ j. T (kept j)) (types_of (x ∷ ns))
    go true k later d = each_more (λ j. T (kept j)) (rw k tt) (later d)
    go false k later d = absurd (true≢false d)

-- .. and the other way round
pub all_names_kept : (kept : ℕ → Bool) (ns : List Name) → Each (λ j. T (kept j)) (types_of ns) → names_dropped kept ns ≡ false
all_names_kept kept [] h = refl
all_names_kept kept (x ∷ ns) h =
    rw (is_true (kept x.type) (h x.type (mathlib.Core.List.Memᴰ.head refl))) (all_names_kept kept ns (λ j m. h j (mathlib.Core.List.Memᴰ.tail m)))

-- Where no name is unknown, an expression's types are given.
pub content_known : {file : List ℕ} {g : Stated} {p : ℕ} → unknown g ≡ [] → (h : Stated) (e : Exp) (ns : List Name)
    → Trace file g p (after_expression h e ns) → Each (λ j. j < length g.blocks) (types_of ns)
content_known {g = g} known h e ns rest j m =
    let o = mathlib.Core.List.Memᴰ.of_map (λ (x : Name). x.type) ns m in
    let there : Memᴰ o.0 (reverse ns) = mem-reverse (reverse ns) (subst (Memᴰ o.0) (sym (reverse-reverse ns)) o.1) in
    subst (λ (j : ℕ). j < length g.blocks) o.2 (type_known known rest (mathlib.Core.List.Memᴰ.append_left h.names there))
