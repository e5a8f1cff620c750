-- The blocks that are left of those that a file states so far, and the schema that they make.
use mathlib.Core.Path.{◌≡◌, refl, sym, ap, ap₂, ◌∙◌}
use mathlib.Core.Bool.{Bool, true, false, cond}
use mathlib.Core.List.{List, [], ◌∷◌, ◌++◌, map, reverse, reverse-cons, map-append, append-nil}
use Prim.Native.Nat.{ℕ, suc, ◌+◌, pred, ◌≤◌}
use native.Mathlib.Omega.{arith}
use lib.Dec.{T}
use lib.ListN.{length, length-map, length-reverse}
use Rattle.sdtd.specs.Schema.{Step, Block}
use Rattle.sdtd.specs.Trim.{kept_steps}
use Rattle.sdtd.specs.Reduced.{new_number, relabel_step, steps_left, block_left, blocks_left, roots_left}
use Rattle.sdtd.proofs.Basics.{is_true, is_false}
use Rattle.commands.specs.File.{Draft, current, step_count, in_current, block_by}

-- a block without its place
abbrev pub unplaced : Draft → Draft
unplaced d =
    record { place = 0; tag = d.tag; nillable = d.nillable; states = d.states; accepting = d.accepting; steps = d.steps }

module _ (kept : ℕ → Bool) where
  -- what is left of a kept type's block, and of the blocks so far, the last first
  abbrev pub draft_left : Draft → Draft
  draft_left d =
      record {
        place = 0;
        tag = d.tag;
        nillable = d.nillable;
        states = d.states;
        accepting = d.accepting;
        steps = steps_left kept d.steps;
      }

  abbrev pub drafts_left : List Draft → List Draft
  drafts_left [] = []
  drafts_left (d ∷ ds) = cond (kept (length ds)) (draft_left d ∷ drafts_left ds) (drafts_left ds)

  -- of no step none is left; one step more, by whether its type is kept
  pub none_left : steps_left kept [] ≡ []
  unfolding steps_left
  none_left = refl

  pub step_kept : (s : Step) (ss : List Step) → T (kept s.by) → steps_left kept (s ∷ ss) ≡ relabel_step (new_number kept) s ∷ steps_left kept ss
  unfolding steps_left
  step_kept s ss t = rw (is_true (kept s.by) t)

  pub step_dropped : (s : Step) (ss : List Step) → ¬ T (kept s.by) → steps_left kept (s ∷ ss) ≡ steps_left kept ss
  unfolding steps_left
  step_dropped s ss n = rw (is_false (kept s.by) n)

  -- no more steps are left than there were
  pub steps_fewer : (ss : List Step) → length (steps_left kept ss) ≤ length ss
  unfolding steps_left
  steps_fewer [] = omega arith
  steps_fewer (s ∷ ss) = go (kept s.by) (steps_fewer ss)
    where
      go : (b : Bool) → length (map (relabel_step (new_number kept)) (kept_steps (λ s. kept s.by) ss)) ≤ length ss
          → let rest = kept_steps (λ s. kept s.by) ss in length (map (relabel_step (new_number kept)) (cond b (s ∷ rest) rest)) ≤ suc (length ss)
      go true l = omega arith
      go false l = omega arith

  -- a list's steps left, root types left and blocks left are those of its parts
  kept_append : (f : Step → Bool) (ss ts : List Step) → kept_steps f (ss ++ ts) ≡ kept_steps f ss ++ kept_steps f ts
  kept_append f [] ts = refl
  kept_append f (s ∷ ss) ts = go (f s) (kept_append f ss ts)
    where
      go : (b : Bool) → kept_steps f (ss ++ ts) ≡ kept_steps f ss ++ kept_steps f ts
          → cond b (s ∷ kept_steps f (ss ++ ts)) (kept_steps f (ss ++ ts)) ≡ cond b (s ∷ kept_steps f ss) (kept_steps f ss) ++ kept_steps f ts
      go true e = ap (λ (l : List Step). s ∷ l) e
      go false e = e

  steps_append : (ss ts : List Step) → steps_left kept (ss ++ ts) ≡ steps_left kept ss ++ steps_left kept ts
  unfolding steps_left
  steps_append ss ts =
      let f : Step → Bool = λ s. kept s.by in
      rw (kept_append f ss ts) (map-append (relabel_step (new_number kept)) (kept_steps f ss) (kept_steps f ts))

  roots_append : (rs qs : List ℕ) → roots_left kept (rs ++ qs) ≡ roots_left kept rs ++ roots_left kept qs
  unfolding roots_left
  roots_append [] qs = refl
  roots_append (r ∷ rs) qs = go (kept r) (roots_append rs qs)
    where
      go : (b : Bool) → roots_left kept (rs ++ qs) ≡ roots_left kept rs ++ roots_left kept qs
          → cond b (new_number kept r ∷ roots_left kept (rs ++ qs)) (roots_left kept (rs ++ qs))
          ≡ cond b (new_number kept r ∷ roots_left kept rs) (roots_left kept rs) ++ roots_left kept qs
      go true e = ap (λ (l : List ℕ). new_number kept r ∷ l) e
      go false e = e

  blocks_append : (a : ℕ) (bs cs : List Block) → blocks_left kept a (bs ++ cs) ≡ blocks_left kept a bs ++ blocks_left kept (a + length bs) cs
  unfolding blocks_left
  blocks_append a [] cs = ap (λ (n : ℕ). blocks_left kept n cs) (omega arith)
  blocks_append a (b ∷ bs) cs =
      go (kept a) (blocks_append (suc a) bs cs ∙ ap (λ (n : ℕ). blocks_left kept (suc a) bs ++ blocks_left kept n cs) (omega arith))
    where
      go : (t : Bool) → blocks_left kept (suc a) (bs ++ cs) ≡ blocks_left kept (suc a) bs ++ blocks_left kept (a + length (b ∷ bs)) cs
          → cond t (block_left kept b ∷ blocks_left kept (suc a) (bs ++ cs)) (blocks_left kept (suc a) (bs ++ cs))
          ≡ cond t (block_left kept b ∷ blocks_left kept (suc a) bs) (blocks_left kept (suc a) bs) ++ blocks_left kept (a + length (b ∷ bs)) cs
      go true e = ap (λ (l : List Block). block_left kept b ∷ l) e
      go false e = e

  -- .. and of a list turned round they are turned round
  pub steps_turned : (ss : List Step) → steps_left kept (reverse ss) ≡ reverse (steps_left kept ss)
  unfolding steps_left
  steps_turned [] = refl
  steps_turned (s ∷ ss) =
      ap (steps_left kept) (reverse-cons s ss) ∙ steps_append (reverse ss) (s ∷ [])
      ∙ ap (λ (l : List Step). l ++ steps_left kept (s ∷ [])) (steps_turned ss) ∙ go (kept s.by)
    where
      go : (b : Bool)
          → let f = relabel_step (new_number kept) in let rest = kept_steps (λ s. kept s.by) ss in
          reverse (map f rest) ++ map f (cond b (s ∷ []) []) ≡ reverse (map f (cond b (s ∷ rest) rest))
      go true = sym (reverse-cons (relabel_step (new_number kept) s) (map (relabel_step (new_number kept)) (kept_steps (λ s. kept s.by) ss)))
      go false = append-nil (reverse (map (relabel_step (new_number kept)) (kept_steps (λ s. kept s.by) ss)))

  pub roots_turned : (rs : List ℕ) → roots_left kept (reverse rs) ≡ reverse (roots_left kept rs)
  unfolding roots_left
  roots_turned [] = refl
  roots_turned (r ∷ rs) =
      ap (roots_left kept) (reverse-cons r rs) ∙ roots_append (reverse rs) (r ∷ [])
      ∙ ap (λ (l : List ℕ). l ++ roots_left kept (r ∷ [])) (roots_turned rs) ∙ go (kept r)
    where
      go : (b : Bool) → reverse (roots_left kept rs) ++ cond b (new_number kept r ∷ []) []
          ≡ reverse (cond b (new_number kept r ∷ roots_left kept rs) (roots_left kept rs))
      go true = sym (reverse-cons (new_number kept r) (roots_left kept rs))
      go false = append-nil (reverse (roots_left kept rs))

  block_left_lem : (d : Draft) → block_by (draft_left d) ≡ block_left kept (block_by d)
  unfolding block_left
  block_left_lem d i =
      record {
        tag = d.tag;
        nillable = d.nillable;
        states = d.states;
        accepting = (block_by d).accepting;
        steps = sym (steps_turned d.steps) i;
      }

  -- The schema's blocks of what is left are those left of the schema's blocks.
  drafts_blocks : (ds : List Draft) → map block_by (reverse (drafts_left ds)) ≡ blocks_left kept 0 (map block_by (reverse ds))
  unfolding blocks_left
  drafts_blocks [] = refl
  drafts_blocks (d ∷ ds) =
      let bs = map block_by (reverse ds) in
      let l : 0 + length bs ≡ length ds = omega (arith, length-map (reverse ds) block_by, length-reverse ds) in
      go (kept (length ds)) ∙ ap (λ (x : List Block). x ++ cond (kept (length ds)) (block_left kept (block_by d) ∷ []) []) (drafts_blocks ds)
      ∙ ap (λ (n : ℕ). blocks_left kept 0 bs ++ blocks_left kept n (block_by d ∷ [])) (sym l) ∙ sym (blocks_append 0 bs (block_by d ∷ []))
      ∙ sym (ap (blocks_left kept 0) (ap (map block_by) (reverse-cons d ds) ∙ map-append block_by (reverse ds) (d ∷ [])))
    where
      go : (b : Bool) → map block_by (reverse (cond b (draft_left d ∷ drafts_left ds) (drafts_left ds)))
          ≡ map block_by (reverse (drafts_left ds)) ++ cond b (block_left kept (block_by d) ∷ []) []
      go true =
          ap (map block_by) (reverse-cons (draft_left d) (drafts_left ds)) ∙ map-append block_by (reverse (drafts_left ds)) (draft_left d ∷ [])
          ∙ ap (λ (b : Block). map block_by (reverse (drafts_left ds)) ++ (b ∷ [])) (block_left_lem d)
      go false = sym (append-nil (map block_by (reverse (drafts_left ds))))

  -- so many blocks are left
  drafts_count : (ds : List Draft) → length (drafts_left ds) ≡ new_number kept (length ds)
  unfolding new_number
  drafts_count [] = refl
  drafts_count (d ∷ ds) = go (kept (length ds)) (drafts_count ds)
    where
      go : (b : Bool) → length (drafts_left ds) ≡ new_number kept (length ds)
          → length (cond b (draft_left d ∷ drafts_left ds) (drafts_left ds)) ≡ cond b (suc (new_number kept (length ds))) (new_number kept (length ds))
      go true e = ap suc e
      go false e = e

  drafts_steps : (ds : List Draft) → step_count (drafts_left ds) ≤ step_count ds
  drafts_steps [] = omega arith
  drafts_steps (d ∷ ds) = go (kept (length ds)) (drafts_steps ds)
    where
      go : (b : Bool) → step_count (drafts_left ds) ≤ step_count ds
          → step_count (cond b (draft_left d ∷ drafts_left ds) (drafts_left ds)) ≤ step_count ds + length d.steps
      go true l = omega (arith, steps_fewer d.steps)
      go false l = omega arith

-- The place of a block's TYPE counts for nothing else.
steps_unplaced : (hs : List Draft) → step_count (map unplaced hs) ≡ step_count hs
steps_unplaced [] = refl
steps_unplaced (d ∷ hs) = ap (λ (n : ℕ). n + length d.steps) (steps_unplaced hs)

current-unplaced : (hs : List Draft) → unplaced (current hs) ≡ current (map unplaced hs)
current-unplaced [] = refl
current-unplaced (d ∷ hs) = refl

blocks_unplaced : (hs : List Draft) → map block_by (reverse (map unplaced hs)) ≡ map block_by (reverse hs)
blocks_unplaced [] = refl
blocks_unplaced (d ∷ hs) =
    ap (map block_by) (reverse-cons (unplaced d) (map unplaced hs)) ∙ map-append block_by (reverse (map unplaced hs)) (unplaced d ∷ [])
    ∙ ap (λ (l : List Block). l ++ (block_by d ∷ [])) (blocks_unplaced hs) ∙ sym (map-append block_by (reverse hs) (d ∷ []))
    ∙ ap (map block_by) (sym (reverse-cons d hs))

-- What is done to a block, in the old file by f and in the new one by f'.
pub record SameDone (kept : ℕ → Bool) (f f' : Draft → Draft) : Type 0 where
  pub no_place : (d : Draft) → unplaced (f' d) ≡ unplaced (f' (unplaced d))
  pub same : (d : Draft) → unplaced (f' (draft_left kept d)) ≡ draft_left kept (f d)

in_unplaced : (f : Draft → Draft) → ((d : Draft) → unplaced (f d) ≡ unplaced (f (unplaced d))) → (hs : List Draft)
    → map unplaced (in_current f hs) ≡ map unplaced (in_current f (map unplaced hs))
in_unplaced f h [] = refl
in_unplaced f h (d ∷ hs) = ap₂ {A = Draft} (λ (x : Draft) (l : List Draft). x ∷ l) (h d) (unplaced_twice hs)
  where
    unplaced_twice : (hs : List Draft) → map unplaced hs ≡ map unplaced (map unplaced hs)
    unplaced_twice [] = refl
    unplaced_twice (d ∷ hs) = ap (λ (l : List Draft). unplaced d ∷ l) (unplaced_twice hs)

drafts_unplaced : (kept : ℕ → Bool) (ds : List Draft) → map unplaced (drafts_left kept ds) ≡ drafts_left kept ds
drafts_unplaced kept [] = refl
drafts_unplaced kept (d ∷ ds) = go (kept (length ds)) (drafts_unplaced kept ds)
  where
    go : (b : Bool) → map unplaced (drafts_left kept ds) ≡ drafts_left kept ds
        → let all = cond b (draft_left kept d ∷ drafts_left kept ds) (drafts_left kept ds) in map unplaced all ≡ all
    go true e = ap (λ (l : List Draft). draft_left kept d ∷ l) e
    go false e = e

-- where the type of the block that the file is in is kept, or is not
in_kept : (kept : ℕ → Bool) (ds : List Draft) → 1 ≤ length ds → T (kept (pred (length ds))) → {f f' : Draft → Draft} → SameDone kept f f'
    → map unplaced (in_current f' (drafts_left kept ds)) ≡ drafts_left kept (in_current f ds)
in_kept kept [] l t s = absurd (omega arith)
in_kept kept (d ∷ ds) l t s =
    rw (is_true (kept (length ds)) t) (ap₂ {A = Draft} (λ (x : Draft) (l : List Draft). x ∷ l) (s.same d) (drafts_unplaced kept ds))

in_dropped : (kept : ℕ → Bool) (ds : List Draft) → ¬ T (kept (pred (length ds))) → (f : Draft → Draft)
    → drafts_left kept ds ≡ drafts_left kept (in_current f ds)
in_dropped kept [] n f = refl
in_dropped kept (d ∷ ds) n f = rw (is_false (kept (length ds)) n)

current_kept : (kept : ℕ → Bool) (ds : List Draft) → 1 ≤ length ds → T (kept (pred (length ds)))
    → current (drafts_left kept ds) ≡ draft_left kept (current ds)
current_kept kept [] l t = absurd (omega arith)
current_kept kept (d ∷ ds) l t = rw (is_true (kept (length ds)) t)

-- What is left of the blocks ds of the old file are the blocks hs of the new one.
pub record LeftOf (kept : ℕ → Bool) (ds hs : List Draft) : Type 0 where
  pub is : map unplaced hs ≡ drafts_left kept ds

module _ {kept : ℕ → Bool} {ds hs : List Draft} (left : LeftOf kept ds hs) where
  pub left_count : length hs ≡ new_number kept (length ds)
  left_count = sym (length-map hs unplaced) ∙ ap length left.is ∙ drafts_count kept ds

  pub left_steps : step_count hs ≤ step_count ds
  left_steps = omega (arith, steps_unplaced hs, ap step_count left.is, drafts_steps kept ds)

  pub left_blocks : map block_by (reverse hs) ≡ blocks_left kept 0 (map block_by (reverse ds))
  left_blocks = sym (blocks_unplaced hs) ∙ ap (λ (l : List Draft). map block_by (reverse l)) left.is ∙ drafts_blocks kept ds

  pub left_done : 1 ≤ length ds → T (kept (pred (length ds))) → {f f' : Draft → Draft} → SameDone kept f f'
      → LeftOf kept (in_current f ds) (in_current f' hs)
  left_done l t {f} {f'} s =
      record {
        is = in_unplaced f' s.no_place hs ∙ ap (λ (x : List Draft). map unplaced (in_current f' x)) left.is ∙ in_kept kept ds l t s;
      }

  pub left_skipped : ¬ T (kept (pred (length ds))) → (f : Draft → Draft) → LeftOf kept (in_current f ds) hs
  left_skipped n f = record { is = left.is ∙ in_dropped kept ds n f }

  pub left_current : 1 ≤ length ds → T (kept (pred (length ds))) → unplaced (current hs) ≡ draft_left kept (current ds)
  left_current l t = current-unplaced hs ∙ ap current left.is ∙ current_kept kept ds l t

  -- a type more, kept or not
  pub left_more : (d d' : Draft) → T (kept (length ds)) → unplaced d' ≡ draft_left kept d → LeftOf kept (d ∷ ds) (d' ∷ hs)
  left_more d d' t e =
      record { is = rw (is_true (kept (length ds)) t) (ap₂ {A = Draft} (λ (x : Draft) (l : List Draft). x ∷ l) e left.is) }

  pub left_same : (d : Draft) → ¬ T (kept (length ds)) → LeftOf kept (d ∷ ds) hs
  left_same d n = record { is = rw (is_false (kept (length ds)) n) left.is }
