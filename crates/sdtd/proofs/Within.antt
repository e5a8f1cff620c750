-- The limits as a check that antt computes; and what follows from them.
use mathlib.Core.Path.{subst}
use mathlib.Core.Bool.{Bool, ◌&&◌}
use mathlib.Core.List.{List, Memᴰ}
use Prim.Native.Nat.{ℕ, ◌<◌}
use native.Mathlib.Omega.{arith}
use lib.Dec.{leb, ltb}
use lib.ListN.{length}
use Rattle.sdtd.specs.Limits.{most_tags, most_types, most_roots, most_states, most_steps}
use Rattle.sdtd.specs.Schema.{Step, Block, Schema, no_block, block_of, Leads, stay, go, steps_in, StepWithin, BlockWithin, WithinLimits}
use Rattle.sdtd.specs.Tree.{Tree, node, label, labels, IsRoot, Derived}
use Rattle.sdtd.specs.Trim.{Bears, Live}
use Rattle.sdtd.proofs.Basics.{get_or_member}
use Rattle.sdtd.proofs.Tests.{Means, means_iff, and_means, lt_means, le_means, every, every_means}
use Rattle.sdtd.proofs.Questions.{TagsBelow, content_in}

abbrev step_check : ℕ → ℕ → Step → Bool
step_check states types s = ltb s.from states && ltb s.by types && ltb s.to states

step_within_means : (states types : ℕ) (s : Step) → Means (step_check states types s) (StepWithin states types s)
step_within_means states types s =
    means_iff (and_means (and_means (lt_means s.from states) (lt_means s.by types)) (lt_means s.to states))
    (λ w. ((w.from, w.by), w.to), λ p. record { from = p.0.0; by = p.0.1; to = p.1 })

abbrev block_check : Schema → Block → Bool
block_check S b =
    ltb b.tag S.tags && leb 1 b.states && leb b.states most_states && every (λ q. ltb q b.states) b.accepting
    && every (step_check b.states (length S.blocks)) b.steps

block_within_means : (S : Schema) (b : Block) → Means (block_check S b) (BlockWithin S b)
block_within_means S b =
    let counts = and_means (and_means (lt_means b.tag S.tags) (le_means 1 b.states)) (le_means b.states most_states) in
    let states = and_means counts (every_means (λ q. lt_means q b.states) b.accepting) in
    means_iff (and_means states (every_means (step_within_means b.states (length S.blocks)) b.steps)) (
      λ w. ((((w.tag, w.states_least), w.states_most), w.accepting), w.steps),
      λ p.
          record {
            tag = p.0.0.0.0;
            states_least = p.0.0.0.1;
            states_most = p.0.0.1;
            accepting = p.0.1;
            steps = p.1;
          },
    )

-- so many root types, each of them given
abbrev roots_check : Schema → Bool
roots_check S = leb 1 (length S.roots) && leb (length S.roots) most_roots && every (λ a. ltb a (length S.blocks)) S.roots

-- the schema is inside the limits
abbrev pub limits_check : Schema → Bool
limits_check S =
    leb 1 S.tags && leb S.tags most_tags && leb 1 (length S.blocks) && leb (length S.blocks) most_types
    && leb (steps_in S.blocks) most_steps && roots_check S && every (block_check S) S.blocks

pub limits_means : (S : Schema) → Means (limits_check S) (WithinLimits S)
limits_means S =
    let n = length S.blocks in
    let tags = and_means (le_means 1 S.tags) (le_means S.tags most_tags) in
    let types = and_means (and_means tags (le_means 1 n)) (le_means n most_types) in
    let m = length S.roots in
    let roots = and_means (and_means (le_means 1 m) (le_means m most_roots)) (every_means (λ a. lt_means a n) S.roots) in
    let counts = and_means (and_means types (le_means (steps_in S.blocks) most_steps)) roots in
    means_iff (and_means counts (every_means (block_within_means S) S.blocks)) (
      λ w. (
        (
          ((((w.tags_least, w.tags_most), w.types_least), w.types_most), w.steps_most),
          ((w.roots_least, w.roots_most), w.roots),
        ),
        w.blocks,
      ),
      λ p.
          record {
            tags_least = p.0.0.0.0.0.0;
            tags_most = p.0.0.0.0.0.1;
            types_least = p.0.0.0.0.1;
            types_most = p.0.0.0.1;
            steps_most = p.0.0.1;
            roots_least = p.0.1.0.0;
            roots_most = p.0.1.0.1;
            roots = p.0.1.1;
            blocks = p.1;
          },
    )

-- inside the limits each block's tag is below the count
pub within_tags : {S : Schema} → WithinLimits S → TagsBelow S
within_tags w b m = (w.blocks b m).tag

-- .. each root type is below the limit of types
pub root_below : {S : Schema} {a : ℕ} → WithinLimits S → IsRoot S a → a < most_types
root_below {a = a} w r = omega (arith, w.roots a r, w.types_most)

-- .. and each type's block is inside the limits
pub block_within : {S : Schema} {a : ℕ} → WithinLimits S → a < length S.blocks → BlockWithin S (block_of S a)
block_within {S} {a} w l = w.blocks (block_of S a) (get_or_member S.blocks a no_block l)

-- inside the limits a tree-bearing type is below the number of types, and its block is inside the limits
pub bears_within : {S : Schema} {a : ℕ} → WithinLimits S → Bears S a → (a < length S.blocks) × BlockWithin S (block_of S a)
bears_within {S} w b = subst TypeWithin b.at_root (tree_within b.tree b.derived)
  where
    TypeWithin : ℕ → Type 0
    TypeWithin a = (a < length S.blocks) × BlockWithin S (block_of S a)

    tree_within : (t : Tree) → Derived S t → TypeWithin (label t)
    tree_within (node κ a f) d = let r = content_in S κ a (labels f) d.0 in (r.0, w.blocks (block_of S a) r.1)

first_within : {S : Schema} {b : Block} {q r : ℕ} {w : List ℕ} → BlockWithin S b → Leads b q w r → Memᴰ r b.accepting → q < b.states
first_within {r = r} w stay m = w.accepting r m
first_within w (go s l) m = (w.steps _ s).from

-- .. and a live state is below the state count
pub live_within : {S : Schema} {a q : ℕ} → BlockWithin S (block_of S a) → Live S a q → q < (block_of S a).states
live_within w l = first_within w l.accepts.leads l.accepts.accepting
