-- Reading an expression: what the automaton that was read, its steps laid into the tables and the verdict on them say of the file.
use mathlib.Core.Path.{◌≡◌, refl, sym, ap, ◌∙◌}
use mathlib.Core.List.{List, [], ◌∷◌, map}
use Prim.Native.Nat.{ℕ, zero, suc, ◌+◌, ◌%◌, ◌≤◌, ◌<◌, pred}
use native.Mathlib.Omega.{arith}
use Rattle.std.specs.Prelude.{Ok, Err}
use Rattle.sdtd.specs.Answer.{question_number}
use Rattle.sdtd.specs.declared.Refusal.{Refusal}
use Rattle.sdtd.proofs.Verdicts.{refused_not_fine}
use lib.ListN.{length, length-map, get_or, replicate, length-replicate}
use Rattle.sdtd.specs.Limits.{most_types, most_states}
use Rattle.schema.specs.Value.{up_from}
use Rattle.schema.proofs.PuttingLaws.{put_there}
use Rattle.schema.proofs.Values.{map_up}
use Rattle.expression.specs.Expression.{Expression as Exp}
use Rattle.expression.specs.Automaton.{uses, type_of_use}
use Rattle.expression.specs.Tests.{leads, all_steps}
use Rattle.expression.specs.Content.{Name, Content, broken, whole, content_at}
use Rattle.expression.specs.Answer.{set_of, of_uses, automaton_read, ContentMeans}
use Rattle.expression.specs.declared.content.Automaton.{Automaton}
use Rattle.expression.proofs.UseTypes.{named-uses}
use Rattle.expression.proofs.WholeContents.{types_of, TypesBelow, WholeContent, whole_content}
use Rattle.commands.specs.Laying.{laid_steps, names_from}
use Rattle.commands.proofs.GroupLaws.{laid_all}

-- what stands in a table of uses
use_there : (xs : List ℕ) (k : ℕ) → length xs < most_states → k < length xs → get_or (of_uses xs) (1 + k) 0 ≡ get_or xs k 0
use_there xs k l m = put_there xs 1 (replicate most_states 0) k (omega (arith, length-replicate {A = ℕ} most_states 0)) m

-- by names that stand in two tables
names_at : (types places : List ℕ) (ns : List Name) (s : ℕ)
    → ((k : ℕ) → k < length ns → get_or types (s + k) 0 ≡ get_or (map (λ (x : Name). x.type) ns) k 0)
    → ((k : ℕ) → k < length ns → get_or places (s + k) 0 ≡ get_or (map (λ (x : Name). x.place) ns) k 0)
    → names_from types places s (length ns) ≡ ns
unfolding names_from
names_at types places [] s f g = refl
names_at types places (x ∷ ns) s f g =
    let z : s + 0 ≡ s = omega arith in
    let t : get_or types s 0 ≡ x.type = rw z at (f 0 (omega arith)) in
    let p : get_or places s 0 ≡ x.place = rw z at (g 0 (omega arith)) in
    let rest = names_at types places ns (suc s)
    (λ k l. let e : s + suc k ≡ suc s + k = omega arith in rw e at (f (suc k) (omega arith)))
    (λ k l. let e : s + suc k ≡ suc s + k = omega arith in rw e at (g (suc k) (omega arith))) in
    λ i. record { type = t i; place = p i } ∷ rest i

-- an expression that was read whole, by its automaton
module _ {file : List ℕ} {i : ℕ} {e : Exp} {ns : List Name} {p : ℕ} (w : WholeContent file i e ns p) where
  as_many : length ns ≡ uses e
  as_many = sym (length-map ns (λ (x : Name). x.type)) ∙ ap length w.names ∙ named-uses e

  pub few : uses e < most_states
  few = omega (arith, as_many, w.few)

  types_told : (q : ℕ) → 1 ≤ q → q < 1 + uses e → get_or (of_uses (types_of ns)) q 0 % most_types ≡ type_of_use e q
  types_told q a b =
      let n = as_many in
      let l = length-map ns (λ (x : Name). x.type) in
      let f = few in
      let s : 1 + pred q ≡ q = omega arith in
      let t : get_or (of_uses (types_of ns)) q 0 ≡ get_or (types_of ns) (pred q) 0 = rw s at (use_there (types_of ns) (pred q) (omega arith) (omega arith)) in
      let d = type_below ns (pred q) (omega arith) w.types in
      let m : get_or (types_of ns) (pred q) 0 % most_types ≡ get_or (types_of ns) (pred q) 0 = omega arith in
      rw t (m ∙ ap (λ (xs : List ℕ). get_or xs (pred q) 0) w.names)
    where
      type_below : (xs : List Name) (k : ℕ) → k < length xs → TypesBelow xs → get_or (types_of xs) k 0 < most_types
      type_below [] k l h = absurd (omega arith)
      type_below (x ∷ xs) zero l h = h.0
      type_below (x ∷ xs) (suc k) l h = type_below xs k (omega arith) h.1

  pub names_told : names_from (of_uses (types_of ns)) (of_uses (map (λ (x : Name). x.place) ns)) 1 (uses e) ≡ ns
  names_told =
      let n = as_many in
      let f = few in
      rw (← n)
      (names_at _ _ ns 1
      (λ k l. use_there (types_of ns) k (omega (arith, length-map ns (λ (x : Name). x.type))) (omega (arith, length-map ns (λ (x : Name). x.type))))
      (λ k l. use_there (map (λ (x : Name). x.place) ns) k (omega (arith, length-map ns (λ (x : Name). x.place)))
      (omega (arith, length-map ns (λ (x : Name). x.place)))))

  pub steps_told : laid_steps (map (λ q. set_of (leads e q) most_states) (up_from 0 most_states)) (of_uses (types_of ns)) (uses e) ≡ all_steps e
  steps_told =
      laid_all e (of_uses (types_of ns)) few types_told (map (λ q. set_of (leads e q) most_states) (up_from 0 most_states))
      (λ q l. let z : 0 + q ≡ q = omega arith in rw z at (map_up (λ q. set_of (leads e q) most_states) 0 0 most_states q l))

-- The automaton that was read is an expression's.
pub record Found (file : List ℕ) (i : ℕ) (a : Automaton) : Type 0 where
  pub expression : Exp
  pub names : List Name
  pub end : ℕ
  pub content : content_at file i ≡ whole expression names end
  pub same : a ≡ automaton_read expression names end

pub found : (file : List ℕ) (i : ℕ) (a : Automaton) → ContentMeans (content_at file i) (Ok a) → Found file i a
found file i a m = go (content_at file i) refl m
  where
    go : (k : Content) → content_at file i ≡ k → ContentMeans k (Ok a) → Found file i a
    go (broken n p) e h = refused_not_fine {n = n} {p = p} h refl
    go (whole e ns p) q h =
        let s : a ≡ automaton_read e ns p = cc in
        record { expression = e; names = ns; end = p; content = q; same = s }

-- or there is none, with its refusal
pub not_found : (file : List ℕ) (i : ℕ) (e : Refusal) → ContentMeans (content_at file i) (Err e)
    → content_at file i ≡ broken (question_number e.why) e.place
not_found file i e m = go (content_at file i) refl m
  where
    go : (k : Content) → content_at file i ≡ k → ContentMeans k (Err e) → content_at file i ≡ broken (question_number e.why) e.place
    go (broken n p) q h =
        let x : question_number e.why ≡ n = cc in
        let y : e.place ≡ p = cc in
        rw (q, x, y)
    go (whole x ns p) q h = cc

pub uses_few : {file : List ℕ} {i : ℕ} {a : Automaton} → Found file i a → a.uses < most_states
uses_few {file} {i} f = rw f.same (few (whole_content file i f.content))
