-- What the new file states so far is what is left of what the old one states; each command that is kept passes in the new file and keeps it so,
-- and so does each that is not.
use mathlib.Core.Path.{◌≡◌, refl, sym, ap, subst, ◌∙◌}
use mathlib.Core.Bool.{Bool, true, false, cond}
use mathlib.Core.List.{List, [], ◌∷◌, Memᴰ}
use Prim.Native.Nat.{ℕ, suc, pred, ◌≤◌, ◌<◌}
use native.Mathlib.Omega.{arith}
use lib.Dec.{T, eqb}
use lib.ListN.{length}
use Rattle.sdtd.specs.Limits.{most_states}
use Rattle.sdtd.specs.Schema.{step}
use Rattle.sdtd.specs.Reduced.{new_number, steps_left, roots_left}
use Rattle.sdtd.specs.Numbered.{type_no}
use Rattle.sdtd.specs.declared.Tag.{Tag}
use Rattle.sdtd.specs.declared.TypeNo.{TypeNo}
use Rattle.sdtd.proofs.Basics.{is_true, is_false, cond_either}
use Rattle.sdtd.proofs.NewNumbers.{new_at_most, new_rises, new_injective}
use Rattle.sdtd.proofs.Reducing.{step_was, roots_left_lem}
use Rattle.schema.specs.States.{no_states}
use Rattle.command.specs.declared.Command.TheVariants.{Tags, TypeBlock, Final, Step, Root, Nil, Done}
use Rattle.expression.specs.Content.{Name}
use Rattle.expression.proofs.WholeContents.{types_of}
use Rattle.commands.specs.Questions.{rank, in_type_block, failed}
use Rattle.commands.specs.File.{Draft, Stated, current, has_step, has_root, seen_of, with_final, with_step, with_nil, in_current, after}
use Rattle.commands.specs.declared.phase.Phase.{Phase}
use Rattle.commands.specs.declared.phase.Phase.TheVariants.{BeforeTypes, InBlock, AfterExpression}
use Rattle.commands.proofs.Passing.{passed}
use Rattle.commands.proofs.RootTables.{has_says, has_passes}
use Rattle.commands.proofs.TableLaws.{same_count}
use Rattle.commands.proofs.StatedLimits.{Each, each_more}
use Rattle.commands.proofs.Passes.{has_step_says, has_step_passes, pass_tags, pass_type, pass_final, pass_step, pass_root, pass_nil, pass_done}
use Rattle.commands.proofs.Passes.{step_new, root_new, nil_new}
use Rattle.commands.proofs.LeftDrafts.{unplaced, draft_left, step_kept, step_dropped, none_left, SameDone, LeftOf}
use Rattle.commands.proofs.LeftDrafts.{left_count, left_steps, left_done, left_skipped, left_current, left_more, left_same}
use Rattle.commands.proofs.LeftStanding.{Standing, early, within, rooted, done, at_tags, no_roots, at_type, some_block, in_own}
use Rattle.commands.proofs.LeftStanding.{by_states, at_root, at_done, stays_standing}
use Rattle.commands.proofs.LeftStanding.{skips_type as standing_skips_type, skips_root as standing_skips_root}

-- Of what g states, h states what is left without the types that are not kept; the names in h are of types below the number of those left of n.
pub record Related (kept : ℕ → Bool) (n : ℕ) (g h : Stated) : Type 0 where
  pub tags : h.tags ≡ g.tags
  pub blocks : LeftOf kept g.blocks h.blocks
  pub names : Each (λ j. j < new_number kept n) (types_of h.names)
  pub roots : h.roots ≡ roots_left kept g.roots
  pub standing : Standing kept g h

-- no more root types are left than there were
roots_fewer : (kept : ℕ → Bool) (rs : List ℕ) → length (roots_left kept rs) ≤ length rs
unfolding roots_left
roots_fewer kept [] = omega arith
roots_fewer kept (r ∷ rs) = go (kept r) (roots_fewer kept rs)
  where
    go : (b : Bool) → length (roots_left kept rs) ≤ length rs
        → length (cond b (new_number kept r ∷ roots_left kept rs) (roots_left kept rs)) ≤ suc (length rs)
    go true l = omega arith
    go false l = omega arith

root_kept : (kept : ℕ → Bool) (r : ℕ) (rs : List ℕ) → T (kept r) → roots_left kept (r ∷ rs) ≡ new_number kept r ∷ roots_left kept rs
unfolding roots_left
root_kept kept r rs t = rw (is_true (kept r) t)

root_dropped : (kept : ℕ → Bool) (r : ℕ) (rs : List ℕ) → ¬ T (kept r) → roots_left kept (r ∷ rs) ≡ roots_left kept rs
unfolding roots_left
root_dropped kept r rs n = rw (is_false (kept r) n)

-- a block with only its TYPE
abbrev pub typed : ℕ → Tag → ℕ → Draft
typed i t s = record { place = i; tag = t.0; nillable = false; states = s; accepting = no_states; steps = [] }

module _ {kept : ℕ → Bool} {n : ℕ} {g h : Stated} (r : Related kept n g h) where
  own_count : length h.blocks ≡ new_number kept (length g.blocks)
  own_count = left_count r.blocks

  -- the type that the file is in, if it is kept, has its block in the new file
  module _ (some : 1 ≤ length g.blocks) (own : T (kept (pred (length g.blocks)))) where
    has_block : 0 < length h.blocks
    has_block = omega (arith, own_count, new_rises kept (pred (length g.blocks)) (length g.blocks) own (omega arith))

    own_current : unplaced (current h.blocks) ≡ draft_left kept (current g.blocks)
    own_current = left_current r.blocks some own

    own_states : (current h.blocks).states ≡ (current g.blocks).states
    own_states = ap (λ (d : Draft). d.states) own_current

    own_accepting : (current h.blocks).accepting ≡ (current g.blocks).accepting
    own_accepting = ap (λ (d : Draft). d.accepting) own_current

    own_nillable : (current h.blocks).nillable ≡ (current g.blocks).nillable
    own_nillable = ap (λ (d : Draft). d.nillable) own_current

    own_steps : (current h.blocks).steps ≡ steps_left kept (current g.blocks).steps
    own_steps = ap (λ (d : Draft). d.steps) own_current

  -- TAGS
  pub keeps_tags : (i k m : ℕ) → failed (seen_of g (Tags m)) (Tags m) ≡ 0
      → (failed (seen_of h (Tags m)) (Tags m) ≡ 0) × Related kept n (after g i (Tags m)) (after h k (Tags m))
  unfolding after
  keeps_tags i k m z =
      let p = passed g (Tags m) z in
      let o = at_tags r.standing p.0 in (
        pass_tags h m o.0 p.1 p.2,
        record { tags = refl; blocks = r.blocks; names = r.names; roots = r.roots; standing = early (omega arith) refl o.1 o.2 },
      )

  -- a TYPE of a kept type passes, with the state count of the new block
  pub passes_type : (t : Tag) (s s' : ℕ) → failed (seen_of g (TypeBlock t s)) (TypeBlock t s) ≡ 0 → s' ≤ most_states
      → failed (seen_of h (TypeBlock t s')) (TypeBlock t s') ≡ 0
  passes_type t s s' z l =
      let p = passed g (TypeBlock t s) z in
      pass_type h t s' (at_type r.standing p.0 p.1) (rw r.tags p.3) l
      (omega (arith, own_count, new_at_most kept (length g.blocks), p.5))

  -- what is stated after a kept type's block of which d is stated in the old file and d' in the new
  pub type_related : (d d' : Draft) (q q' : Phase) (ns ns' : List Name) → rank g.phase ≤ rank AfterExpression → rank InBlock ≤ rank q
      → rank q ≤ rank AfterExpression → T (in_type_block q') → (rank q ≡ rank InBlock → rank q' ≡ rank InBlock) → T (kept (length g.blocks))
      → unplaced d' ≡ draft_left kept d → Each (λ j. j < new_number kept n) (types_of ns')
      → Related kept n (record { phase = q; tags = g.tags; blocks = d ∷ g.blocks; names = ns; roots = g.roots })
      (record { phase = q'; tags = h.tags; blocks = d' ∷ h.blocks; names = ns'; roots = h.roots })
  type_related d d' q q' ns ns' before l m in_block by k e named =
      record {
        tags = r.tags;
        blocks = left_more r.blocks d d' k e;
        names = named;
        roots = r.roots;
        standing =
            within
            (record { least = l; most = omega arith; some_type = omega arith; no_root = no_roots r.standing before })
            in_block (λ a b. by a);
      }

  -- .. and after one that is not kept
  pub type_skipped : (d : Draft) (q : Phase) (ns : List Name) → rank BeforeTypes ≤ rank g.phase → rank g.phase ≤ rank AfterExpression
      → rank InBlock ≤ rank q → rank q ≤ rank AfterExpression → ¬ T (kept (length g.blocks))
      → Related kept n (record { phase = q; tags = g.tags; blocks = d ∷ g.blocks; names = ns; roots = g.roots }) h
  type_skipped d q ns a b l m k =
      record {
        tags = r.tags;
        blocks = left_same r.blocks d k;
        names = r.names;
        roots = r.roots;
        standing = standing_skips_type r.standing a b l m (omega arith) k;
      }

  -- a TYPE that no expression follows
  pub keeps_type : (i k : ℕ) (t : Tag) (s : ℕ) → failed (seen_of g (TypeBlock t s)) (TypeBlock t s) ≡ 0 → eqb s 0 ≡ false
      → T (kept (length g.blocks))
      → (failed (seen_of h (TypeBlock t s)) (TypeBlock t s) ≡ 0) × Related kept n (after g i (TypeBlock t s)) (after h k (TypeBlock t s))
  unfolding after
  keeps_type i k t s z o own =
      let p = passed g (TypeBlock t s) z in (
        passes_type t s s z p.4,
        rw o
            (type_related (typed i t s) (typed k t s) InBlock InBlock g.names h.names p.1 (omega arith) (omega arith) tt (λ q. refl) own
            no_steps r.names),
      )
    where
      no_steps : unplaced (typed k t s) ≡ draft_left kept (typed i t s)
      no_steps a = record { place = 0; tag = t.0; nillable = false; states = s; accepting = no_states; steps = sym (none_left kept) a }

  pub skips_type : (i : ℕ) (t : Tag) (s : ℕ) → failed (seen_of g (TypeBlock t s)) (TypeBlock t s) ≡ 0 → eqb s 0 ≡ false
      → ¬ T (kept (length g.blocks)) → Related kept n (after g i (TypeBlock t s)) h
  unfolding after
  skips_type i t s z o own =
      let p = passed g (TypeBlock t s) z in
      rw o (type_skipped (typed i t s) InBlock g.names p.0 p.1 (omega arith) (omega arith) own)

  -- what is done to a kept type's block, in both files
  done_related : {f f' : Draft → Draft} (q q' : Phase) (ns ns' : List Name) → SameDone kept f f' → 1 ≤ length g.blocks
      → T (kept (pred (length g.blocks))) → rank q ≡ rank g.phase → rank q' ≡ rank h.phase → Each (λ j. j < new_number kept n) (types_of ns')
      → Related kept n (record { phase = q; tags = g.tags; blocks = in_current f g.blocks; names = ns; roots = g.roots })
      (record { phase = q'; tags = h.tags; blocks = in_current f' h.blocks; names = ns'; roots = h.roots })
  done_related {f} {f'} q q' ns ns' same some own e e' named =
      record {
        tags = r.tags;
        blocks = left_done r.blocks some own same;
        names = named;
        roots = r.roots;
        standing = stays_standing r.standing e (sym (same_count f g.blocks)) e' (sym (same_count f' h.blocks)) refl;
      }

  -- .. in the old file only, where what is left of the blocks stays
  skip_related : (f : Draft → Draft) (q : Phase) (ns : List Name) → LeftOf kept (in_current f g.blocks) h.blocks → rank q ≡ rank g.phase
      → Related kept n (record { phase = q; tags = g.tags; blocks = in_current f g.blocks; names = ns; roots = g.roots }) h
  skip_related f q ns left e =
      record {
        tags = r.tags;
        blocks = left;
        names = r.names;
        roots = r.roots;
        standing = stays_standing r.standing e (sym (same_count f g.blocks)) refl refl refl;
      }

  -- FINAL
  pub keeps_final : (i k q : ℕ) → failed (seen_of g (Final q)) (Final q) ≡ 0 → T (kept (pred (length g.blocks)))
      → (failed (seen_of h (Final q)) (Final q) ≡ 0) × Related kept n (after g i (Final q)) (after h k (Final q))
  unfolding after
  keeps_final i k q z own =
      let p = passed g (Final q) z in
      let some = some_block r.standing (omega arith) (omega arith) in
      let o = by_states r.standing p.0 own (has_block some own) in (
        pass_final h q o (rw (own_states some own) p.1) (rw (own_accepting some own) p.2),
        done_related InBlock InBlock g.names h.names (record { no_place = λ d. refl; same = λ d. refl }) some own (sym p.0) (sym o)
            r.names,
      )

  pub skips_final : (i q : ℕ) → failed (seen_of g (Final q)) (Final q) ≡ 0 → ¬ T (kept (pred (length g.blocks)))
      → Related kept n (after g i (Final q)) h
  unfolding after
  skips_final i q z own = skip_related (with_final q) InBlock g.names (left_skipped r.blocks own (with_final q)) (sym (passed g (Final q) z).0)

  -- NIL
  pub keeps_nil : (i k : ℕ) → failed (seen_of g Nil) Nil ≡ 0 → T (kept (pred (length g.blocks)))
      → (failed (seen_of h Nil) Nil ≡ 0) × Related kept n (after g i Nil) (after h k Nil)
  unfolding after
  keeps_nil i k z own =
      let p = passed g Nil z in
      let some = some_block r.standing p.0 p.1 in (
        pass_nil h (in_own r.standing p.0 p.1 (has_block some own)) (rw (own_nillable some own) (nil_new g z)),
        done_related g.phase h.phase g.names h.names (record { no_place = λ d. refl; same = λ d. refl }) some own refl refl r.names,
      )

  pub skips_nil : (i : ℕ) → ¬ T (kept (pred (length g.blocks))) → Related kept n (after g i Nil) h
  unfolding after
  skips_nil i own = skip_related with_nil g.phase g.names (left_skipped r.blocks own with_nil) refl

  -- STEP
  pub keeps_step : (i k p : ℕ) (j : TypeNo) (q : ℕ) → let c = Step p (type_no (new_number kept j.0)) q in
      failed (seen_of g (Step p j q)) (Step p j q) ≡ 0 → T (kept (pred (length g.blocks))) → T (kept j.0) → j.0 < n
      → (failed (seen_of h c) c ≡ 0) × Related kept n (after g i (Step p j q)) (after h k c)
  unfolding after
  keeps_step i k p j q z own t known =
      let b = passed g (Step p j q) z in
      let some = some_block r.standing (omega arith) (omega arith) in
      let o = by_states r.standing b.0 own (has_block some own) in
      let image = new_number kept j.0 in
      let new : ¬ T (has_step p image q (current h.blocks).steps) = λ x.
      step_new g p j q z
      (has_step_passes p j.0 q (current g.blocks).steps
      (step_was kept t (has_step_says p image q (steps_left kept (current g.blocks).steps) (rw (own_steps some own) at x)))) in (
        pass_step h p (type_no image) q o (rw (own_states some own) b.1) (omega (arith, new_at_most kept j.0, b.4))
            (rw (own_states some own) b.2) (omega (arith, left_steps r.blocks, b.3)) new,
        done_related InBlock InBlock (record { type = j.0; place = i } ∷ g.names) (record { type = image; place = k } ∷ h.names)
            (record { no_place = λ d. refl; same = λ d. with_step_lem d }) some own (sym b.0) (sym o)
            (each_more (λ m. m < new_number kept n) (new_rises kept j.0 n t known) r.names),
      )
    where
      with_step_lem : (d : Draft)
          → unplaced (with_step (step p (new_number kept j.0) q) (draft_left kept d)) ≡ draft_left kept (with_step (step p j.0 q) d)
      with_step_lem d i =
          record {
            place = 0;
            tag = d.tag;
            nillable = d.nillable;
            states = d.states;
            accepting = d.accepting;
            steps = sym (step_kept kept (step p j.0 q) d.steps t) i;
          }

  pub skips_step : (i p : ℕ) (j : TypeNo) (q : ℕ) → failed (seen_of g (Step p j q)) (Step p j q) ≡ 0
      → ¬ (T (kept (pred (length g.blocks))) × T (kept j.0)) → Related kept n (after g i (Step p j q)) h
  unfolding after
  skips_step i p j q z none =
      let b = passed g (Step p j q) z in
      let some = some_block r.standing (omega arith) (omega arith) in
      skip_related f InBlock (record { type = j.0; place = i } ∷ g.names)
      (cond_either (λ (u : Unit {0}). LeftOf kept (in_current f g.blocks) h.blocks) (kept (pred (length g.blocks))) {x = tt} {y = tt}
      (own some) (λ m. left_skipped r.blocks m f)) (sym b.0)
    where
      f : Draft → Draft
      f = with_step (step p j.0 q)

      without_step : ¬ T (kept j.0) → (d : Draft) → unplaced (draft_left kept d) ≡ draft_left kept (f d)
      without_step m d i =
          record {
            place = 0;
            tag = d.tag;
            nillable = d.nillable;
            states = d.states;
            accepting = d.accepting;
            steps = sym (step_dropped kept (step p j.0 q) d.steps m) i;
          }

      same_drafts : (ds : List Draft) → in_current (λ d. d) ds ≡ ds
      same_drafts [] = refl
      same_drafts (d ∷ ds) = refl

      own : 1 ≤ length g.blocks → T (kept (pred (length g.blocks))) → LeftOf kept (in_current f g.blocks) h.blocks
      own some t =
          subst (LeftOf kept (in_current f g.blocks)) (same_drafts h.blocks)
          (left_done r.blocks some t (record { no_place = λ d. refl; same = without_step (λ u. none (t, u)) }))

  -- ROOT
  pub keeps_root : (i k : ℕ) (a : TypeNo) → let c = Root (type_no (new_number kept a.0)) in
      failed (seen_of g (Root a)) (Root a) ≡ 0 → T (kept a.0) → (failed (seen_of h c) c ≡ 0) × Related kept n (after g i (Root a)) (after h k c)
  unfolding after
  keeps_root i k a z t =
      let p = passed g (Root a) z in
      let image = new_number kept a.0 in
      let below : image < length h.blocks = omega (arith, own_count, new_rises kept a.0 (length g.blocks) t p.3) in
      let new : ¬ T (has_root image h.roots) = λ x.
      let f = (roots_left_lem kept g.roots image).0 (has_says image (roots_left kept g.roots) (rw r.roots at x)) in
      let same : f.member ≡ a.0 = new_injective kept f.member a.0 f.holds.0 t (sym f.holds.1) in
      root_new g a z (has_passes a.0 g.roots (subst (λ (m : ℕ). Memᴰ m g.roots) same f.given)) in (
        pass_root h (type_no image) (at_root r.standing p.0 p.1 (omega arith)) below
            (omega (arith, ap length r.roots, roots_fewer kept g.roots, p.4)) new,
        record {
          tags = r.tags;
          blocks = r.blocks;
          names = r.names;
          roots = rw (root_kept kept a.0 g.roots t) (ap (λ (l : List ℕ). image ∷ l) r.roots);
          standing = rooted refl refl;
        },
      )

  pub skips_root : (i : ℕ) (a : TypeNo) → failed (seen_of g (Root a)) (Root a) ≡ 0 → ¬ T (kept a.0) → Related kept n (after g i (Root a)) h
  unfolding after
  skips_root i a z t =
      let p = passed g (Root a) z in
      record {
        tags = r.tags;
        blocks = r.blocks;
        names = r.names;
        roots = rw (root_dropped kept a.0 g.roots t) r.roots;
        standing = standing_skips_root r.standing p.0 p.1 refl refl;
      }

  -- DONE, where a ROOT is kept
  pub keeps_done : (i k : ℕ) → failed (seen_of g Done) Done ≡ 0 → ¬ (roots_left kept g.roots ≡ [])
      → (failed (seen_of h Done) Done ≡ 0) × Related kept n (after g i Done) (after h k Done)
  unfolding after
  keeps_done i k z some =
      let o = at_done r.standing (passed g Done z) (λ e. some (sym r.roots ∙ e)) in (
        pass_done h o,
        record { tags = r.tags; blocks = r.blocks; names = r.names; roots = r.roots; standing = done refl refl },
      )
