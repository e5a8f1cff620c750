-- The content of a file and its automaton, from what the parser of a choice says.
use mathlib.Core.Path.{◌≡◌, refl, sym, ap, ap₂, subst, ◌∙◌}
use mathlib.Core.Logic.{inl, inr, ⊎_elim}
use mathlib.Core.Bool.{Bool, true, false, cond, and-false}
use mathlib.Core.List.{List, [], ◌∷◌, ◌++◌, map, map-append, reverse, reverse-cons, append-nil}
use Prim.Native.Nat.{ℕ, zero, suc, ◌+◌, ◌^◌, ◌<◌}
use native.Mathlib.Nat.{zero-add}
use native.Mathlib.Omega.{arith}
use borrow.Author.Tests.{ne_eqb}
use lib.Dec.{T}
use lib.ListN.{length, get_or, set, replicate, length-set, length-map, length-reverse}
use lib.Seq.{get_or-set_same, get_or-set_other, ext_get_or}
use Rattle.sdtd.specs.Limits.{most_states}
use Rattle.sdtd.proofs.Basics.{cond_both, is_true, same_test}
use Rattle.schema.specs.Putting.{put_all}
use Rattle.schema.specs.States.{member, insert}
use Rattle.schema.specs.declared.state_set.StateSet.{StateSet}
use Rattle.schema.proofs.Bits.{member-insert, member_below, insert_below, same_members}
use Rattle.schema.proofs.PuttingLaws.{put_append}
use Rattle.command.specs.Command.{command_at}
use Rattle.schema.specs.Value.{up_from}
use Rattle.schema.proofs.Values.{up_count, map_up}
use Rattle.expression.specs.Answer.{set_of, empty, automaton_read}
use Rattle.expression.proofs.TestSets.{set_below, member_set}
use Rattle.expression.specs.Automaton.{uses}
use Rattle.expression.specs.Content.{Name, broken, whole, content_at, no_level, choice_of}
use Rattle.expression.specs.Expression.{Expression, empty_word, single, sequence, choice, repeat}
use Rattle.expression.specs.Parsing.{ending, so_far, scan, put_back, tables, ReadAs, ChoiceWhole, ChoiceRefused}
use Rattle.expression.specs.Tests.{nullable, last, follow, leads, accepts}
use Rattle.expression.specs.declared.content.Automaton.{Automaton}
use Rattle.expression.specs.declared.parsed.Parsed.{Parsed}
use Rattle.expression.specs.declared.tables.Tables.{Tables}
use Rattle.expression.proofs.CommandTests.{is_end, ending_is}
use Rattle.expression.proofs.ScanLaws.{scan_fails, scan_ends}
use Rattle.expression.proofs.SetLaws.{member_zero}

-- The content: the whole choice, then the 3F.
content_scan : (file : List ℕ) (i : ℕ) → content_at file i ≡ scan file i (so_far [] no_level [] false)
unfolding content_at scan
content_scan file i = refl

pub record WholeAt (file : List ℕ) (i : ℕ) (t t' : Tables) (x : Parsed) : Type 0 where
  pub content : Expression
  pub names : List Name
  pub read : ReadAs 1 content names t t' x
  pub same : content_at file i ≡ whole content (reverse names) x.at

pub content_refused : (file : List ℕ) (i n p : ℕ) → ChoiceRefused file i 0 0 n p → content_at file i ≡ broken n p
content_refused file i n p r = content_scan file i ∙ r [] [] refl refl

module _ (file : List ℕ) (i : ℕ) (t t' : Tables) (x : Parsed) (w : ChoiceWhole file i 0 0 t t' x) where
  pub content_unended : ¬ (ending false (command_at file x.at) ≡ 0)
      → content_at file i ≡ broken (ending false (command_at file x.at)) x.at
  content_unended n =
      let k = w.taken in
      content_scan file i ∙ k.scans [] [] refl refl
      ∙ scan_fails file x.at (so_far [] k.level (k.names ++ []) k.again) (ending false (command_at file x.at))
      (ending_is [] k.level (k.names ++ []) k.again (command_at file x.at) k.opens_not w.divides_not k.no_repeat) n

  pub content_whole : ending false (command_at file x.at) ≡ 0 → WholeAt file i t t' x
  content_whole e =
      let k = w.taken in
      record {
        content = choice_of k.level;
        names = k.names;
        read = k.read;
        same = content_scan file i ∙ k.scans [] [] refl refl
            ∙ scan_ends file x.at (so_far [] k.level (k.names ++ []) k.again) (is_end (command_at file x.at) e) refl
            ∙ ap (λ (ns : List Name). whole (choice_of k.level) (reverse ns) x.at) (append-nil k.names);
      }

-- a set by its members
pub same_set : (x : ℕ) (t : ℕ → Bool) → x < 2 ^ most_states → ((q : ℕ) → member q x ≡ t q) → x ≡ set_of t most_states
same_set x t b h =
    same_members x (set_of t most_states) b (set_below t most_states)
    (λ q. (
      λ m. (member_set t most_states q (omega arith)).1 (subst T (h q) m, member_below q x b m),
      λ m. subst T (sym (h q)) ((member_set t most_states q (omega arith)).0 m).0,
    ))

-- no use before the first can come last
last_low : (n : ℕ) (e : Expression) (q : ℕ) → q < n → last n e q ≡ false
last_low n empty_word q l = refl
last_low n (single j) q l = ne_eqb q n (λ e. omega arith)
last_low n (sequence e f) q l = rw (last_low (n + uses e) f q (omega arith), last_low n e q l) (and-false (nullable f))
last_low n (choice e f) q l = rw (last_low (n + uses e) f q (omega arith), last_low n e q l)
last_low n (repeat e) q l = last_low n e q l

-- The accepting states: 0 if the empty word is one, and the uses that can come last.
accepts_each : (e : Expression) (x : ℕ) → x < 2 ^ most_states → ((q : ℕ) → member q x ≡ last 1 e q) → (b : Bool) → b ≡ nullable e → (q : ℕ)
    → member q (cond b (insert 0 x) x) ≡ accepts e q
accepts_each e x l h true n zero = is_true (member 0 (insert 0 x)) ((member-insert 0 0 x l).1 (inr (refl, omega arith))) ∙ n
accepts_each e x l h false n zero = h 0 ∙ last_low 1 e 0 (omega arith) ∙ n
accepts_each e x l h true n (suc q) =
    same_test (member (suc q) (insert 0 x)) (member (suc q) x)
    (λ m. ⊎_elim (λ k. k) (λ k. absurd (omega (arith, k.0))) ((member-insert 0 (suc q) x l).0 m))
    (λ m. (member-insert 0 (suc q) x l).1 (inl m))
    ∙ h (suc q)
accepts_each e x l h false n (suc q) = h (suc q)

-- a table of zeros has no entry
no_entry : (n k : ℕ) → ◌≡◌ {A = ℕ} (get_or (replicate n 0) k 0) 0
no_entry zero k = refl
no_entry (suc n) zero = refl
no_entry (suc n) (suc k) = no_entry n k

-- what is put in back to front is put in front to back
put_reversed : (f : Name → ℕ) (n : ℕ) (names : List Name) (t : List ℕ) → put_back n (map f names) t ≡ put_all (map f (reverse names)) n t
unfolding put_back put_all
put_reversed f n [] t = refl
put_reversed f n (c ∷ cs) t =
    let long : n + length (map f cs) ≡ n + length (map f (reverse cs)) = omega (arith, length-map cs f, length-map (reverse cs) f, length-reverse cs) in
    ap₂ (λ (l : List ℕ) (k : ℕ). set l k (f c)) (put_reversed f n cs t) long
    ∙ sym (ap (λ (ys : List ℕ). put_all ys n t) (ap (map f) (reverse-cons c cs) ∙ map-append f (reverse cs) (c ∷ []))
    ∙ put_append (map f (reverse cs)) (f c ∷ []) n t)

-- The automaton of the content.
module _ (t' : Tables) (x : Parsed) (e : Expression) (names : List Name) (r : ReadAs 1 e names (tables empty empty empty) t' x)
    (rows : length t'.next ≡ most_states) (fit : (k : ℕ) → get_or t'.next k 0 < 2 ^ most_states) (firsts : x.first.0 < 2 ^ most_states) (lasts : x.last.0 < 2 ^ most_states) where
  follows_each : (p q : ℕ) → member q (get_or t'.next p 0) ≡ follow 1 e p q
  follows_each p q = r.follows p q ∙ rw (no_entry most_states p, member_zero q)

  next_entry : (p : ℕ) → p < most_states → get_or (set t'.next 0 x.first.0) p 0 ≡ set_of (leads e p) most_states
  next_entry zero l =
      get_or-set_same t'.next 0 x.first.0 0 (omega (arith, rows)) ∙ same_set x.first.0 (leads e 0) firsts r.firsts
  next_entry (suc p) l =
      get_or-set_other t'.next 0 (suc p) x.first.0 0 (λ d. omega arith)
      ∙ same_set (get_or t'.next (suc p) 0) (leads e (suc p)) (fit (suc p)) (follows_each (suc p))

  next_whole : set t'.next 0 x.first.0 ≡ map (λ q. set_of (leads e q) most_states) (up_from 0 most_states)
  next_whole =
      let long : length (set t'.next 0 x.first.0) ≡ most_states = length-set t'.next 0 x.first.0 ∙ rows in
      let entry : ℕ → ℕ = λ q. set_of (leads e q) most_states in
      ext_get_or 0 _ _ (long ∙ sym (length-map (up_from 0 most_states) entry ∙ up_count 0 most_states))
      (λ p l. next_entry p (rw long at l) ∙ sym (map_up entry 0 0 most_states p (rw long at l) ∙ ap entry (zero-add p)))

  accepting_whole : cond x.nullable (insert 0 x.last.0) x.last.0 ≡ set_of (accepts e) most_states
  accepting_whole =
      same_set (cond x.nullable (insert 0 x.last.0) x.last.0) (accepts e)
      (cond_both (λ (y : ℕ). y < 2 ^ most_states) x.nullable _ _ (insert_below 0 x.last.0 lasts) lasts)
      (accepts_each e x.last.0 lasts r.lasts x.nullable r.empties)

  pub automaton_whole : (a : StateSet) → a.0 ≡ cond x.nullable (insert 0 x.last.0) x.last.0
      → ◌≡◌ {A = Automaton}
      (record {
        end = x.at;
        uses = x.uses;
        accepting = a;
        next = set t'.next 0 x.first.0;
        types = t'.types;
        places = t'.places;
      })
      (automaton_read e (reverse names) x.at)
  automaton_whole a s =
      let u : x.uses ≡ uses e = omega (arith, r.count) in
      let ac : a.0 ≡ set_of (accepts e) most_states = s ∙ accepting_whole in
      let ty : t'.types ≡ put_all (map (λ c. c.type) (reverse names)) 1 empty = r.types_put ∙ put_reversed (λ c. c.type) 1 names empty in
      let pl : t'.places ≡ put_all (map (λ c. c.place) (reverse names)) 1 empty = r.places_put ∙ put_reversed (λ c. c.place) 1 names empty in
      λ i. record {
        end = x.at;
        uses = u i;
        accepting = record { 0 = ac i };
        next = next_whole i;
        types = ty i;
        places = pl i;
      }
