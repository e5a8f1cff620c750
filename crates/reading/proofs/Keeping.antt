-- A reading at a position: its levels keep what the frames of a typed reading of the events taken say.
use mathlib.Core.Path.{◌≡◌, refl, sym, ap, subst, ◌∙◌}
use mathlib.Core.Logic.{◌↔◌, ◌≢◌}
use mathlib.Core.Bool.{Bool, true, false, true≢false}
use mathlib.Core.List.{List, [], ◌∷◌, ◌++◌, cons≢nil, concat-ne-nil}
use Prim.Native.Nat.{ℕ, zero, suc, pred, ◌≤◌, ◌<◌}
use native.Mathlib.Omega.{arith}
use native.Mathlib.Decide.{ℕ_discrete}
use lib.Dec.{T}
use lib.ListN.{length, get_or, set, length-set, length-replicate}
use lib.Seq.{get_or-set_same, get_or-set_other}
use Rattle.sdtd.specs.Limits.{most_levels}
use Rattle.sdtd.specs.Schema.{Block, Schema, block_of, Leads, stay, WithinLimits}
use Rattle.sdtd.specs.Tree.{Kind, plain, nil}
use Rattle.sdtd.specs.Document.{Event}
use Rattle.sdtd.specs.Trim.{BearsBy, Live}
use Rattle.sdtd.specs.Competition.{Accepted}
use Rattle.sdtd.specs.Reading.{OpenElement}
use Rattle.sdtd.proofs.Bearing.{by_bears}
use Rattle.sdtd.proofs.Fixpoint.{plain_live}
use Rattle.sdtd.proofs.Machine.{Owner, top, own, Frame, frame, start}
use Rattle.sdtd.proofs.Position.{Position}
use Rattle.sdtd.proofs.Elements.{Elements, outside, element}
use Rattle.sdtd.proofs.Within.{bears_within, live_within}
use Rattle.sdtd.proofs.Model.{fresh_position}
use Rattle.schema.specs.States.{member, no_states, only_start}
use Rattle.schema.proofs.Bits.{member_none, member_start}
use Rattle.reading.specs.declared.value.Reading.{Reading}
use Rattle.reading.specs.Levels.{fresh, LevelWithin, Within}
use Rattle.reading.specs.Questions.{first_set, sets_after, opened, closed}

-- the set has the live states that the children w of a type a lead to; that of a nil element has none
abbrev pub Keeps : Schema → ℕ → Kind → ℕ → List ℕ → Type 0
Keeps S set plain a w = (q : ℕ) → T (member q set) ↔ (Leads (block_of S a) 0 w q × Live S a q)
Keeps S set nil a w = set ≡ no_states

-- the level of an element of the type a, opened so, with the children w so far
pub record Level (S : Schema) (type set : ℕ) (κ : Kind) (a : ℕ) (w : List ℕ) : Type 0 where
  pub same_type : type ≡ a
  pub bears : BearsBy S κ a
  pub states : Keeps S set κ a w

-- The first n levels are those of the frames, innermost first; the outside has a child once the root has been opened.
pub data Levels (S : Schema) (types sets : List ℕ) (rooted : Bool) : ℕ → List Frame → Type 0 where
  outermost : {w : List ℕ} → (w ≡ []) ↔ (rooted ≡ false) → Levels S types sets rooted 0 (frame top w ∷ [])
  level : {n : ℕ} {κ : Kind} {a : ℕ} {w : List ℕ} {fs : List Frame} → rooted ≡ true → Level S (get_or types n 0) (get_or sets n 0) κ a w
      → Levels S types sets rooted n fs → Levels S types sets rooted (suc n) (frame (own κ a) w ∷ fs)

-- what a reading says of the frames: with none left it is finished
pub data Reads (S : Schema) (r : Reading) : List Frame → Type 0 where
  over : r.finished ≡ true → r.depth ≡ 0 → Reads S r []
  going : {fs : List Frame} → r.finished ≡ false → Levels S r.types r.sets r.rooted r.depth fs → Reads S r fs

-- there are `most_levels` levels, and at most as many are open
pub record Sized (r : Reading) : Type 0 where
  pub depth : r.depth ≤ most_levels
  pub types : length r.types ≡ most_levels
  pub sets : length r.sets ≡ most_levels

-- the reading after the events e
pub record After (S : Schema) (e : List Event) (r : Reading) : Type 0 where
  pub frames : List Frame
  pub at : Position S e frames
  pub reads : Reads S r frames
  pub sized : Sized r

-- a fresh reading is the one after no event
pub fresh_after : {S : Schema} → Accepted S → After S [] fresh
fresh_after accepted =
    record {
      frames = start;
      at = fresh_position accepted.bears;
      reads = going refl (outermost (λ e. refl, λ e. refl));
      sized = record { depth = omega arith; types = length-replicate {A = ℕ} most_levels 0; sets = length-replicate {A = ℕ} most_levels 0 };
    }

pub some_frame : {S : Schema} {types sets : List ℕ} {rooted : Bool} {n : ℕ} {fs : List Frame} → Levels S types sets rooted n fs → fs ≢ []
some_frame (outermost k) q = cons≢nil q
some_frame (level b v l) q = cons≢nil q

-- the levels of a reading that is not finished
pub levels_of : {S : Schema} {r : Reading} {fs : List Frame} → r.finished ≡ false → Reads S r fs
    → Levels S r.types r.sets r.rooted r.depth fs
levels_of u (over f z) = absurd (true≢false (sym f ∙ u))
levels_of u (going f l) = l

-- as many elements are open as levels
pub levels_depth : {S : Schema} {vs types sets : List ℕ} {rooted : Bool} {n : ℕ} {xs : List OpenElement} {fs : List Frame}
    → Elements S vs xs fs → Levels S types sets rooted n fs → length xs ≡ n
levels_depth outside (outermost k) = refl
levels_depth (element o t p c m) (level b k l) = ap suc (levels_depth m l)

level_within : {S : Schema} {type set : ℕ} (κ : Kind) {a : ℕ} {w : List ℕ} → WithinLimits S → Level S type set κ a w → LevelWithin S type set
level_within {S} {set = set} plain within k =
    let b = bears_within within (by_bears plain k.bears) in
    subst (λ (t : ℕ). LevelWithin S t set) (sym k.same_type)
    (record { type = b.0; states = λ q m. live_within b.1 ((k.states q).0 m).1 })
level_within {S} {set = set} nil within k =
    let b = bears_within within (by_bears nil k.bears) in
    subst (λ (t : ℕ). LevelWithin S t set) (sym k.same_type)
    (record { type = b.0; states = λ q m. absurd (member_none q (subst (λ (x : ℕ). T (member q x)) k.states m)) })

levels_within : {S : Schema} {types sets : List ℕ} {rooted : Bool} {n : ℕ} {fs : List Frame} → WithinLimits S
    → Levels S types sets rooted n fs → (m : ℕ) → m < n → LevelWithin S (get_or types m 0) (get_or sets m 0)
levels_within within (outermost k) m h = absurd (omega arith)
levels_within {S} {types} {sets} within (level {n = n} {κ = κ} b k l) m h =
    elim (ℕ_discrete m n) [
      | yes e ↦ rw e (level_within κ within k)
      | no d ↦ levels_within within l m (omega arith)
    ]

reads_within : {S : Schema} {r : Reading} {fs : List Frame} → WithinLimits S → Reads S r fs → (m : ℕ) → m < r.depth
    → LevelWithin S (get_or r.types m 0) (get_or r.sets m 0)
reads_within within (over f z) m h = absurd (omega arith)
reads_within within (going f l) m h = levels_within within l m h

-- question 10 is answered yes
pub after_within : {S : Schema} {e : List Event} {r : Reading} → WithinLimits S → After S e r → Within S r
after_within within k =
    record { schema = within; reading = record { depth = k.sized.depth; levels = reads_within within k.reads } }

-- a level by numbers equal to its own
relevel : {S : Schema} {type type' set set' : ℕ} {κ : Kind} {a : ℕ} {w : List ℕ} → type' ≡ type → set' ≡ set
    → Level S type set κ a w → Level S type' set' κ a w
relevel e f k = rw (e, f) k

-- lists that are the same below the depth have the same levels
levels_below : {S : Schema} {types types' sets sets' : List ℕ} {rooted : Bool} {n : ℕ} {fs : List Frame}
    → ((m : ℕ) → m < n → get_or types' m 0 ≡ get_or types m 0) → ((m : ℕ) → m < n → get_or sets' m 0 ≡ get_or sets m 0)
    → Levels S types sets rooted n fs → Levels S types' sets' rooted n fs
levels_below f g (outermost k) = outermost k
levels_below f g (level {n = n} b k l) =
    level b (relevel (f n (omega arith)) (g n (omega arith)) k)
    (levels_below (λ m h. f m (omega arith)) (λ m h. g m (omega arith)) l)

no_step : {b : Block} {p q : ℕ} → Leads b p [] q → q ≡ p
no_step stay = refl

-- the level of an element that has just been opened: with no children only the start state is reached; a nil element has no states
new_level : {S : Schema} {type set : ℕ} (κ : Kind) {a : ℕ} → type ≡ a → set ≡ first_set κ → BearsBy S κ a → Level S type set κ a []
new_level {S} plain {a} e f b =
    let states : Keeps S only_start plain a [] =
    λ q. (λ m. rw ((member_start q).0 m) (stay, plain_live.0 b), λ h. (member_start q).1 (no_step h.0)) in
    relevel e f (record { same_type = refl; bears = b; states = states })
new_level nil e f b = relevel e f (record { same_type = refl; bears = b; states = refl })

-- what is kept of an owner's children; the outside keeps no states
abbrev pub OwnerKeeps : Schema → ℕ → Owner → List ℕ → Type 0
OwnerKeeps S set top w = Unit
OwnerKeeps S set (own κ a) w = Keeps S set κ a w

-- the levels after an opening
pub levels_opened : {S : Schema} {types sets : List ℕ} {rooted : Bool} {n : ℕ} {κ : Kind} {j : ℕ} (kept : ℕ) {o : Owner} {w : List ℕ}
    {fs : List Frame} → n < length types → n < length sets → BearsBy S κ j → OwnerKeeps S kept o (w ++ (j ∷ []))
    → Levels S types sets rooted n (frame o w ∷ fs)
    → Levels S (set types n j) (sets_after κ sets n kept) true (suc n) (frame (own κ j) [] ∷ frame o (w ++ (j ∷ [])) ∷ fs)
levels_opened {types = types} {sets} {κ = κ} {j = j} kept {w = w} ht hs b keeps (outermost k) =
    level refl (new_level κ (get_or-set_same types 0 j 0 ht) (get_or-set_same sets 0 (first_set κ) 0 hs) b)
    (outermost (λ e. absurd (concat-ne-nil j w e), λ e. absurd (true≢false e)))
levels_opened {S} {types} {sets} {κ = κ} {j = j} kept {w = w} ht hs b keeps (level {n = n} {fs = fs} r k l) =
    let types' = set types (suc n) j in
    let sets' = set (set sets n kept) (suc n) (first_set κ) in
    let long : suc n < length (set sets n kept) = rw length-set hs in
    let type : (m : ℕ) → m < suc n → get_or types' m 0 ≡ get_or types m 0 = λ m h. get_or-set_other types (suc n) m j 0 (λ e. omega arith) in
    let inner : (m : ℕ) → m < suc n → get_or sets' m 0 ≡ get_or (set sets n kept) m 0 =
    λ m h. get_or-set_other (set sets n kept) (suc n) m (first_set κ) 0 (λ e. omega arith) in
    let below : Levels S types' sets' true n fs =
    subst (λ (rooted : Bool). Levels S types' sets' rooted n fs) r
    (levels_below (λ m h. type m (omega arith)) (λ m h. inner m (omega arith) ∙ get_or-set_other sets n m kept 0 (λ e. omega arith)) l) in
    level refl (new_level κ (get_or-set_same types (suc n) j 0 ht) (get_or-set_same (set sets n kept) (suc n) (first_set κ) 0 long) b)
    (level refl
    (relevel (type n (omega arith)) (inner n (omega arith) ∙ get_or-set_same sets n kept 0 (omega arith))
    (record { same_type = k.same_type; bears = k.bears; states = keeps }))
    below)

-- the sizes after an opening and a closing
pub opened_sized : {r : Reading} (κ : Kind) (j kept : ℕ) → r.depth < most_levels → Sized r → Sized (opened κ r j kept)
opened_sized {r} κ j kept h s =
    record {
      depth = h;
      types = length-set r.types r.depth j ∙ s.types;
      sets = sets-length r.sets r.depth ∙ s.sets;
    }
  where
    sets-length : (sets : List ℕ) (n : ℕ) → length (sets_after κ sets n kept) ≡ length sets
    sets-length sets zero = length-set sets 0 (first_set κ)
    sets-length sets (suc n) = length-set (set sets n kept) (suc n) (first_set κ) ∙ length-set sets n kept

pub closed_sized : {r : Reading} → Sized r → Sized (closed r)
closed_sized {r} s = record { depth = lower r.depth s.depth; types = s.types; sets = s.sets }
  where
    lower : (n : ℕ) → n ≤ most_levels → pred n ≤ most_levels
    lower zero h = h
    lower (suc n) h = omega arith
