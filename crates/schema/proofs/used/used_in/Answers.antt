-- `schema::used::used_in` meets its contract. The loop's invariant: the table so far is that of the types below `a`.
use Prim.Native.Nat.{ℕ, ◌+◌, ◌-◌, ◌≤◌, ◌<◌}
use mathlib.Core.Path.{◌≡◌, sym, ◌∙◌}
use mathlib.Core.Bool.{Bool, false}
use mathlib.Core.List.{List, ◌++◌, append-nil}
use native.Mathlib.Omega.{arith}
use lib.ListN.{length, get_or, set, take, replicate}
use lib.Seq.{take_all}
use Rattle.sdtd.specs.Limits.{most_types}
use Rattle.schema.specs.Trimming.{used_in}
use Rattle.schema.proofs.Rounds.{fill_next}
use Rattle.schema.proofs.UsedTables.{used_long, used_at}
use Rattle.schema.proofs.used.used_in.Goals as goal

-- the entry of `a` joins those before it
next_entry : (used b : List Bool) (a : ℕ) (v : Bool) → a < length b → a < most_types
    → used ≡ take a b ++ replicate (most_types - a) false → v ≡ get_or b a false
    → set used a v ≡ take (a + 1) b ++ replicate (most_types - (a + 1)) false
next_entry used b a v l m before is = rw (before, is) (fill_next b a most_types false false l m)

pub loop-a-preserved : goal.loop-a-preserved
loop-a-preserved c =
    let t = c.args.trimming in
    let l : c.loop-a.a < length (used_in t) = rw (used_long t) (omega arith) in
    let is = sym (used_at t c.loop-a.a (omega arith)) in
    next_entry _ (used_in t) c.loop-a.a _ l (omega arith) c.loop-a.invariant (rw c.opens.ensures is)

pub returns : goal.returns
returns c =
    let t = c.args.trimming in
    let e : c.loop-a.a ≡ most_types = omega arith in
    let l : length (used_in t) ≤ most_types = rw (used_long t) (omega arith) in
    c.loop-a.invariant ∙ rw (e, take_all most_types (used_in t) l) (append-nil (used_in t))
