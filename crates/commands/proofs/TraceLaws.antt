-- What is stated in a file that is read to its end stays so: the names, the number of blocks, and each block but for its NIL once it is over.
use mathlib.Core.Path.{◌≡◌, refl, sym, ap, subst, ◌∙◌}
use mathlib.Core.Bool.{Bool, true, false, cond}
use mathlib.Core.List.{List, [], ◌∷◌, ◌++◌, map, reverse, reverse-cons, map-append}
use mathlib.Core.List.Memᴰ
use mathlib.Core.List.{Memᴰ}
use Prim.Native.Nat.{ℕ, suc, ◌+◌, ◌≤◌, ◌<◌}
use native.Mathlib.Decide.{dec_lt}
use native.Mathlib.Omega.{arith}
use borrow.Author.Tests.{eq-eqb, ne_eqb}
use lib.Dec.{eqb}
use lib.ListN.{length, get_or, length-map, length-reverse, get_or-append}
use lib.Seq.{get_or-append-add}
use Rattle.sdtd.specs.Schema.{step, no_block}
use Rattle.sdtd.specs.declared.Tag.{Tag}
use Rattle.command.specs.declared.Command.{Command}
use Rattle.command.specs.declared.Command.TheVariants.{Tags, TypeBlock, Final, Step, Root, Nil, Done, Expression}
use Rattle.expression.specs.Content.{Name}
use Rattle.commands.specs.Questions.{rank}
use Rattle.commands.specs.File.{Draft, Stated, current, with_final, with_step, with_nil, in_current, after, with_automaton, block_by, unknown}
use Rattle.commands.specs.declared.phase.Phase.TheVariants.{InBlock}
use Rattle.commands.proofs.Passing.{Passed, passed}
use Rattle.commands.proofs.TableLaws.{same_count}
use Rattle.commands.proofs.StatedLimits.{known_in}
use Rattle.commands.proofs.Traces.{Trace, ended, command, content}

-- a command leaves the names and the blocks that there are
names-after : (g : Stated) (i : ℕ) (c : Command) {x : Name} → Memᴰ x g.names → Memᴰ x (after g i c).names
unfolding after
names-after g i (Tags n) m = m
names-after g i (TypeBlock t s) m = m
names-after g i (Final q) m = m
names-after g i (Step p j q) m = Memᴰ.tail m
names-after g i (Root a) m = m
names-after g i Nil m = m
names-after g i Done m = m
names-after g i (Expression x) m = m

blocks-after : (g : Stated) (i : ℕ) (c : Command) → length g.blocks ≤ length (after g i c).blocks
unfolding after
blocks-after g i (Tags n) = omega arith
blocks-after g i (TypeBlock t s) = omega arith
blocks-after g i (Final q) = omega (arith, same_count (with_final q) g.blocks)
blocks-after g i (Step p j q) = omega (arith, same_count (with_step (step p j.0 q)) g.blocks)
blocks-after g i (Root a) = omega arith
blocks-after g i Nil = omega (arith, same_count with_nil g.blocks)
blocks-after g i Done = omega arith
blocks-after g i (Expression x) = omega arith

module _ {file : List ℕ} {g : Stated} where
  -- the names so far are among those at the end
  pub names_stay : {i : ℕ} {g₀ : Stated} → Trace file g i g₀ → {x : Name} → Memᴰ x g₀.names → Memᴰ x g.names
  names_stay (ended e d l) {x} m = subst (λ (h : Stated). Memᴰ x h.names) e m
  names_stay {i} {g₀} (command c h z o t) m = names_stay t (names-after g₀ i c m)
  names_stay {i} {g₀} (content t e ns p h z read fits rest) m =
      names_stay rest (Memᴰ.append_right (reverse ns) (names-after g₀ i (TypeBlock t 0) m))

  -- so that where no name is unknown, each that is stated so far is of a type of the file
  pub type_known : {i : ℕ} {g₀ : Stated} → unknown g ≡ [] → Trace file g i g₀ → {x : Name} → Memᴰ x g₀.names → x.type < length g.blocks
  type_known none t {x} m =
      known_in (length g.blocks) g.names none x.type (Memᴰ.map (λ (y : Name). y.type) (names_stay t m))

  -- there are as many blocks at the end, or more
  pub blocks_grow : {i : ℕ} {g₀ : Stated} → Trace file g i g₀ → length g₀.blocks ≤ length g.blocks
  blocks_grow (ended e d l) = omega (arith, ap (λ (h : Stated). length h.blocks) e)
  blocks_grow {i} {g₀} (command c h z o t) = omega (arith, blocks-after g₀ i c, blocks_grow t)
  blocks_grow {i} {g₀} (content t e ns p h z read fits rest) =
      omega (arith, blocks-after g₀ i (TypeBlock t 0), same_count (with_automaton e) (after g₀ i (TypeBlock t 0)).blocks, blocks_grow rest)

-- the block of the type n, where the last type's stands first
abbrev pub draft_at : List Draft → ℕ → Draft
draft_at [] n = current []
draft_at (d ∷ ds) n = cond (eqb n (length ds)) d (draft_at ds n)

-- the schema has it at that number
pub block_at : (ds : List Draft) (n : ℕ) → n < length ds → get_or (map block_by (reverse ds)) n no_block ≡ block_by (draft_at ds n)
block_at [] n l = absurd (omega arith)
block_at (d ∷ ds) n l =
    let bs = map block_by (reverse ds) in
    let k : length bs ≡ length ds = length-map (reverse ds) block_by ∙ length-reverse ds in
    let e : map block_by (reverse (d ∷ ds)) ≡ bs ++ (block_by d ∷ []) =
    ap (map block_by) (reverse-cons d ds) ∙ map-append block_by (reverse ds) (d ∷ []) in
    elim (dec_lt n (length ds)) [
      | yes b ↦
          rw (e, ne_eqb n (length ds) (λ z. omega arith))
          (get_or-append bs (block_by d ∷ []) no_block n (omega arith) ∙ block_at ds n b)
      | no b ↦
          let z : n ≡ length bs + 0 = omega arith in
          rw (e, eq-eqb n (length ds) (omega arith))
          (ap (λ (m : ℕ). get_or (bs ++ (block_by d ∷ [])) m no_block) z ∙ get_or-append-add bs (block_by d ∷ []) 0 no_block)
    ]

-- a block without its place and its NIL
abbrev pub content_of : Draft → Draft
content_of d =
    record { place = 0; tag = d.tag; nillable = false; states = d.states; accepting = d.accepting; steps = d.steps }

-- what is done to the block that the file is in leaves those before it
older_same : (f : Draft → Draft) (ds : List Draft) (n : ℕ) → suc n < length ds → draft_at (in_current f ds) n ≡ draft_at ds n
older_same f [] n l = refl
older_same f (d ∷ ds) n l = rw (ne_eqb n (length ds) (λ z. omega arith))

-- a NIL leaves the rest of every block
nil_same : (ds : List Draft) (n : ℕ) → content_of (draft_at (in_current with_nil ds) n) ≡ content_of (draft_at ds n)
nil_same [] n = refl
nil_same (d ∷ ds) n = go (eqb n (length ds))
  where
    go : (b : Bool) → content_of (cond b (with_nil d) (draft_at ds n)) ≡ content_of (cond b d (draft_at ds n))
    go true = refl
    go false = refl

-- The block of the type n is over but for a NIL.
pub record Over (g : Stated) (n : ℕ) : Type 0 where
  pub given : n < length g.blocks
  pub no_more : rank g.phase ≡ rank InBlock → suc n < length g.blocks

record StaysOver (g h : Stated) (n : ℕ) : Type 0 where
  over : Over h n
  same : content_of (draft_at h.blocks n) ≡ content_of (draft_at g.blocks n)

-- a type more
type_over : (g : Stated) (i : ℕ) (t : Tag) (s n : ℕ) → n < length g.blocks → StaysOver g (after g i (TypeBlock t s)) n
unfolding after
type_over g i t s n l =
    record {
      over = record { given = omega arith; no_more = λ q. omega arith };
      same = rw (ne_eqb n (length g.blocks) (λ z. omega arith));
    }

over_more : (g : Stated) (i : ℕ) (t : Tag) (n : ℕ) → n < length g.blocks → suc n < length (after g i (TypeBlock t 0)).blocks
unfolding after
over_more g i t n l = omega arith

-- what is done to a block by states
in_block_over : (g : Stated) (f : Draft → Draft) (ns : List Name) (n : ℕ) → rank g.phase ≡ rank InBlock → Over g n
    → StaysOver g (record { phase = InBlock; tags = g.tags; blocks = in_current f g.blocks; names = ns; roots = g.roots }) n
in_block_over g f ns n q o =
    let l = o.no_more q in
    let k = same_count f g.blocks in
    record {
      over = record { given = omega arith; no_more = λ z. omega arith };
      same = ap content_of (older_same f g.blocks n l);
    }

stays_over : (g : Stated) (i : ℕ) (c : Command) (n : ℕ) → Passed g c → Over g n → StaysOver g (after g i c) n
unfolding after
stays_over g i (Tags k) n p o = record { over = record { given = o.given; no_more = λ q. absurd (omega arith) }; same = refl }
stays_over g i (TypeBlock t s) n p o = type_over g i t s n o.given
stays_over g i (Final q) n p o = in_block_over g (with_final q) g.names n p.0 o
stays_over g i (Step x j y) n p o =
    in_block_over g (with_step (step x j.0 y)) (record { type = j.0; place = i } ∷ g.names) n p.0 o
stays_over g i (Root a) n p o = record { over = record { given = o.given; no_more = λ q. absurd (omega arith) }; same = refl }
stays_over g i Nil n p o =
    let k = same_count with_nil g.blocks in
    let l = o.given in
    record { over = record { given = omega arith; no_more = λ q. omega (arith, o.no_more q) }; same = nil_same g.blocks n }
stays_over g i Done n p o = record { over = record { given = o.given; no_more = λ q. absurd (omega arith) }; same = refl }
stays_over g i (Expression x) n p o = absurd p

module _ {file : List ℕ} {g : Stated} where
  -- a block that is over is at the end as it is, but for its NIL
  pub block_stays : {i : ℕ} {g₀ : Stated} → Trace file g i g₀ → (n : ℕ) → Over g₀ n
      → content_of (draft_at g.blocks n) ≡ content_of (draft_at g₀.blocks n)
  block_stays (ended e d l) n o = ap (λ (h : Stated). content_of (draft_at h.blocks n)) (sym e)
  block_stays {i} {g₀} (command c h z k t) n o =
      let r = stays_over g₀ i c n (passed g₀ c z) o in
      block_stays t n r.over ∙ r.same
  block_stays {i} {g₀} (content t e ns p h z read fits rest) n o =
      let r = type_over g₀ i t 0 n o.given in
      let l = over_more g₀ i t n o.given in
      let f = with_automaton e in
      let ds = (after g₀ i (TypeBlock t 0)).blocks in
      block_stays rest n (record { given = omega (arith, l, same_count f ds); no_more = λ q. omega (arith, l, same_count f ds) })
      ∙ ap content_of (older_same f ds n l) ∙ r.same
