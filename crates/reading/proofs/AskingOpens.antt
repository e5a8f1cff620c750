-- The tags of which an opening would be taken: how they are marked, and that they are those.
use mathlib.Core.Path.{◌≡◌, refl, sym, ap, subst, ◌∙◌}
use mathlib.Core.Bool.{Bool, true, false, ◌&&◌}
use mathlib.Core.Logic.Iff
use mathlib.Core.Logic.{◌↔◌, ◌⊎◌, inl, inr, ⊎_elim}
use mathlib.Core.List.Memᴰ
use mathlib.Core.List.{List, [], ◌∷◌, Memᴰ}
use Prim.Native.Nat.{ℕ, pred, min, ◌-◌, ◌%◌, ◌≤◌, ◌<◌}
use native.Mathlib.Decide.{ℕ_discrete, dec_lt}
use native.Mathlib.Omega.{arith}
use lib.Dec.{T, eqb, eqb→eq, eqb_refl}
use lib.ListN.{length, get_or, set, replicate, length-set, length-replicate, get_or-eq_default}
use lib.Seq.{get_or-set_same, get_or-set_other}
use Rattle.sdtd.specs.Limits.{most_tags, most_types, most_levels, most_steps}
use Rattle.sdtd.specs.Schema.{Schema as Meaning}
use Rattle.sdtd.specs.Schema.{Step, no_block, block_of, WithinLimits, step}
use Rattle.sdtd.specs.Tree.{Kind}
use Rattle.sdtd.specs.Document.{opening}
use Rattle.sdtd.proofs.Answers.{ordered_accepted}
use Rattle.sdtd.proofs.Basics.{◌&◌, get_or_member, not_both, and_parts, and_both}
use Rattle.sdtd.proofs.Bearing.{by_bears}
use Rattle.sdtd.proofs.ReducedDocuments.{bears_below}
use Rattle.schema.specs.States.{member}
use Rattle.schema.specs.Value.{offset, steps_of, meaning}
use Rattle.schema.specs.declared.value.Schema.{Schema}
use Rattle.schema.proofs.FirstTables.{Fits}
use Rattle.schema.proofs.Values.{same_everywhere}
use Rattle.reading.specs.declared.value.Reading.{Reading}
use Rattle.reading.specs.declared.event_file.Trimmed.{Trimmed}
use Rattle.std.specs.Prelude.{Some, None}
use Rattle.reading.specs.Coming.{Coming}
use Rattle.reading.specs.Levels.{inner_type, Within}
use Rattle.reading.specs.Questions.{questions, TakenBy, CanOpen}
use Rattle.reading.specs.Coming.{opens_in, step_taken}
use Rattle.reading.specs.Steps.{coming_first}
use Rattle.reading.specs.Turns.{EndTables}
use Rattle.reading.specs.Stop.{WouldTake, TellsTags}
use Rattle.reading.specs.Asking.{comes, Marks, SomeStep, MarksSteps, taken_by}
use Rattle.reading.proofs.ComingMeans.{ComingMeans}
use Rattle.reading.proofs.InsideMeans.{inside_room, some_step}
use Rattle.reading.proofs.RootMeans.{root_means}
use Rattle.reading.proofs.LevelLaws.{tags_of}
use Rattle.reading.proofs.AnswerExists.{call_exists}
use Rattle.reading.proofs.Asking.{Took, would_hold, told_none, told_all}

-- a test that holds of no tag marks none
marks_none : (P : ℕ → Bool) (flags : List Bool) → ((g : ℕ) → g < most_tags → ¬ T (P g)) → Marks P flags flags
marks_none P flags fails = record { entries = refl; exactly = λ g l h. (inl, ⊎_elim (λ t. t) (λ t. absurd (fails g l t))) }

-- the tag i is marked, if it is to be
module _ (flags : List Bool) (i : ℕ) (b : Bool) where
  abbrev Own : ℕ → Bool
  Own k = eqb i k && b

  pub marks_not : b ≡ false → Marks Own flags flags
  marks_not e = marks_none Own flags (λ g l t. subst T e (and_parts (eqb i g) b t).1)

  pub marks_past : most_tags ≤ i → Marks Own flags flags
  marks_past p = marks_none Own flags (λ g l t. omega (arith, eqb→eq i g (and_parts (eqb i g) b t).0))

  pub marks_own : b ≡ true → Marks Own flags (set flags i true)
  marks_own is =
      record {
        entries = length-set flags i true;
        exactly = λ g l h. elim (ℕ_discrete g i) [
          | yes e ↦
              subst (λ (k : ℕ). T (get_or (set flags i true) k false) ↔ (T (get_or flags k false) ⊎ T (Own k))) (sym e)
              (here (subst (λ (k : ℕ). k < length flags) e h))
          | no n ↦
              rw (get_or-set_other flags i g true false n)
              (inl, ⊎_elim (λ t. t) (λ t. absurd (n (sym (eqb→eq i g (and_parts (eqb i g) b t).0)))))
        ];
      }
    where
      here : i < length flags → T (get_or (set flags i true) i false) ↔ (T (get_or flags i false) ⊎ T (Own i))
      here inside =
          rw (get_or-set_same flags i true false inside) (λ t. inr (and_both (eqb i i) b (eqb_refl i) (subst T (sym is) tt)), λ t. tt)

-- A step by j from p to q.
module _ (tag ways : List ℕ) (own states : ℕ) (κ : Kind) (p j q : ℕ) where
  abbrev is_taken : ℕ → Bool
  is_taken k = step_taken tag ways own states κ k (step p j q)

  abbrev under : ℕ → Bool
  under k = eqb (get_or tag (j % most_types) 0) k

  abbrev bearing : Bool
  bearing = opens_in κ ways (j % most_types)

  parts : (k : ℕ) → T (is_taken k) → (T (under k) × T (member p states)) × (T bearing × T (member q own))
  parts k t =
      let both = and_parts (under k && member p states) (bearing && member q own) t in
      (and_parts (under k) (member p states) both.0, and_parts bearing (member q own) both.1)

  -- from no state of the set, or into no live state, it marks none
  pub step_from_none : (flags : List Bool) → member p states ≡ false → Marks is_taken flags flags
  step_from_none flags e = marks_none is_taken flags (λ g l t. subst T e (parts g t).0.1)

  pub step_to_none : (flags : List Bool) → member q own ≡ false → Marks is_taken flags flags
  step_to_none flags e = marks_none is_taken flags (λ g l t. subst T e (parts g t).1.1)

-- A loop over steps: the flags mark those passed, and with those left come to all.
module _ (P : ℕ → Step → Bool) (all : List Step) where
  pub record MarksYet (left : List Step) (flags : List Bool) : Type 0 where
    pub entries : length flags ≡ most_tags
    pub exactly : (g : ℕ) → g < most_tags → (T (get_or flags g false) ⊎ SomeStep (P g) left) ↔ SomeStep (P g) all

  pub yet_none : MarksYet all (replicate most_tags false)
  yet_none =
      record {
        entries = length-replicate most_tags false;
        exactly = λ g l. (⊎_elim (λ t. absurd (subst T (same_everywhere false most_tags g) t)) (λ w. w), inr);
      }

  module _ {left rest : List Step} {s : Step} (e : left ≡ s ∷ rest) where
    split : (g : ℕ) → SomeStep (P g) left ↔ (T (P g s) ⊎ SomeStep (P g) rest)
    split g = (
      λ w.
          ⊎_elim (λ q. inl (subst (λ (x : Step). T (P g x)) q w.2)) (λ m. inr (w.0, m, w.2))
          (Memᴰ.cases_cons (subst (Memᴰ w.0) e w.1)),
      ⊎_elim (λ t. (s, subst (Memᴰ s) (sym e) (Memᴰ.head refl), t)) (λ w. (w.0, subst (Memᴰ w.0) (sym e) (Memᴰ.tail w.1), w.2)),
    )

    pub yet_next : {was is : List Bool} → MarksYet left was → Marks (λ g. P g s) was is → MarksYet rest is
    yet_next {was} {is} told m =
        record {
          entries = m.entries ∙ told.entries;
          exactly = λ g l.
              let marked = m.exactly g l (rw told.entries l) in
              let known = told.exactly g l in (
                ⊎_elim (λ t. known.0 (⊎_elim inl (λ h. inr ((split g).1 (inl h))) (marked.0 t))) (λ w. known.0 (inr ((split g).1 (inr w)))),
                λ w. ⊎_elim (λ h. inl (marked.1 (inl h))) (λ u. ⊎_elim (λ h. inl (marked.1 (inr h))) inr ((split g).0 u)) (known.1 w),
              );
        }

  pub yet_all : {left : List Step} {flags : List Bool} → left ≡ [] → MarksYet left flags → MarksSteps P all flags
  yet_all e told =
      record {
        entries = told.entries;
        exactly = λ g l.
            let known = told.exactly g l in (
              λ t. known.0 (inl t),
              λ w. ⊎_elim (λ t. t) (λ u. absurd (Memᴰ.not-nil (subst (Memᴰ u.0) e u.1))) (known.1 w),
            );
      }

  -- the property is that of the marks, and no other number has it
  steps_tell : {flags : List Bool} (Q : ℕ → Type 0) → MarksSteps P all flags → ((g : ℕ) → Q g ↔ SomeStep (P g) all)
      → ((g : ℕ) → Q g → g < most_tags) → TellsTags Q flags
  steps_tell {flags} Q told same below =
      record {
        entries = told.entries;
        exactly = λ g. (
          λ t. elim (dec_lt g most_tags) [
            | yes l ↦ (same g).1 ((told.exactly g l).0 t)
            | no n ↦ absurd (subst T (get_or-eq_default flags false (omega (arith, told.entries))) t)
          ],
          λ q. (told.exactly g (below g q)).1 ((same g).0 q),
        );
      }

-- what says of each number whether it has a property says it of the same one
tells_same : {P Q : ℕ → Type 0} {flags : List Bool} → ((g : ℕ) → P g ↔ Q g) → TellsTags P flags → TellsTags Q flags
tells_same same told = record { entries = told.entries; exactly = λ g. Iff.trans (told.exactly g) (same g) }

-- a type comes next exactly if some type can be opened
comes_told : {S : Meaning} {r : Reading} {κ : Kind} {g : ℕ} (c : Coming) → ComingMeans S r κ g c → T (comes c) ↔ ((j : ℕ) × CanOpen S r κ g j)
comes_told None m = (λ t. absurd t, λ o. m o.0 o.1)
comes_told (Some (j, kept)) m = (λ t. (j.0, m.can_open), λ o. tt)

-- the tag of a type that can be opened is one of the schema's
opened_tag : {S : Meaning} {r : Reading} {κ : Kind} {g j : ℕ} → WithinLimits S → CanOpen S r κ g j → g < S.tags
opened_tag {S} {κ = κ} {j = j} within o =
    subst (λ (k : ℕ). k < S.tags) o.tag
    (within.blocks (block_of S j) (get_or_member S.blocks j no_block (bears_below (by_bears κ o.bears)))).tag

-- On a reading that is not finished, with a level left, an opening would be taken exactly if some type can be opened.
module _ (S : Meaning) (r : Reading) (within : Within S r) (κ : Kind) where
  would_open : r.finished ≡ false → r.depth < most_levels → (g : ℕ) → WouldTake S r (opening κ g) ↔ ((j : ℕ) × CanOpen S r κ g j)
  would_open unfinished room g = (
    λ w. (would_hold S r (opening κ g) w).1.1.1.0,
    λ o.
        let n = call_exists S r (opening κ g) in
        let t = ordered_accepted (TakenBy S r (opening κ g)) (questions S r (opening κ g))
        (within & unfinished & opened_tag within.schema o.1 & o & room & tt) n.1 in
        (n.0, n.1, subst Took (sym t.next) tt),
  )

  -- its tag is one
  would_tag : (g : ℕ) → WouldTake S r (opening κ g) → g < most_tags
  would_tag g w = omega (arith, (would_hold S r (opening κ g) w).1.1.0, within.schema.tags_most)

-- Where a walk has ended, by the tables there.
module _ {v : Schema} {r : Reading} {t : Trimmed} (held : EndTables v r t) (κ : Kind) where
  abbrev Takes : ℕ → Type 0
  Takes g = WouldTake (meaning v) r (opening κ g)

  -- 11, and 14
  pub tells_finished : r.finished ≡ true → TellsTags Takes (replicate most_tags false)
  tells_finished e = told_all Takes (told_none Takes) (λ g w. absurd (not_both e (would_hold (meaning v) r (opening κ g) w).1.0))

  pub tells_full : most_levels ≤ r.depth → TellsTags Takes (replicate most_tags false)
  tells_full l =
      told_all Takes (told_none Takes) (λ g w. absurd (omega (arith, (would_hold (meaning v) r (opening κ g) w).1.1.1.1.0)))

  module _ (unfinished : r.finished ≡ false) (room : r.depth < most_levels) where
    opens : (g : ℕ) → Takes g ↔ ((j : ℕ) × CanOpen (meaning v) r κ g j)
    opens g = would_open (meaning v) r held.within κ unfinished room g

    -- with no element open, by the heads
    pub tells_first : r.depth ≡ 0 → {flags : List Bool}
        → TellsTags (λ g. (g < v.tags) × T (comes (coming_first t.heads r.rooted κ g))) flags → TellsTags Takes flags
    tells_first none told =
        tells_same (λ g. (
          λ p. (opens g).1 ((root g (omega (arith, p.0, tags_of v, held.within.schema.tags_most))).0 p.1),
          λ w.
              let l = (would_hold (meaning v) r (opening κ g) w).1.1.0 in
              (omega (arith, l, tags_of v), (root g (would_tag (meaning v) r held.within κ g w)).1 ((opens g).0 w)),
        )) told
      where
        root : (g : ℕ) → g < most_tags → T (comes (coming_first t.heads r.rooted κ g)) ↔ ((j : ℕ) × CanOpen (meaning v) r κ g j)
        root g l = comes_told (coming_first t.heads r.rooted κ g) (root_means (meaning v) r none κ g t.heads (held.heads.opens κ g l))

    -- inside an element, by the steps of its type a
    pub tells_inside : {flags : List Bool} → Fits v → 0 < r.depth → (a start n level : ℕ) → level ≡ pred r.depth → a ≡ get_or r.types level 0
        → start ≡ min (offset v.steps a) most_steps → n ≡ min (get_or v.steps a 0) (most_steps - start)
        → MarksSteps (taken_by v t.found.ways (record { states = record { 0 = get_or r.sets level 0 }; own = record { 0 = get_or t.found.live a 0 } }) κ)
        (steps_of v.from v.by v.to start n) flags → TellsTags Takes flags
    tells_inside fits inside a start n level level_is a_is start_is n_is told =
        let here : a ≡ inner_type r = a_is ∙ ap (λ (m : ℕ). get_or r.types m 0) level_is in
        let room = inside_room fits held.within inside in
        let first : start ≡ offset v.steps (inner_type r) = omega (arith, start_is, ap (offset v.steps) here, room) in
        let many : n ≡ get_or v.steps (inner_type r) 0 = omega (arith, n_is, ap (λ (m : ℕ). get_or v.steps m 0) here, first, room) in
        steps_tell _ _ Takes (rw (first, many, here, level_is) at told)
        (λ g. Iff.trans (opens g) (some_step fits held.within inside t.found.live t.found.ways held.live held.ways κ g))
        (would_tag (meaning v) r held.within κ)
