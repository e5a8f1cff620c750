-- "For each command" outside an expression: the questions 3 to 6, asked of what is seen of the file where the command stands.
use Rattle.std.specs.Prelude.{Bool, true, false, not, ◌&&◌, ◌||◌, List, [], ◌∷◌, ℕ, eqb, leb, ltb}
use Rattle.sdtd.specs.Limits.{most_tags, most_types, most_roots, most_states, most_steps}
use Rattle.schema.specs.States.{member}
use Rattle.command.specs.Asked.{first_no}
use Rattle.command.specs.declared.Command.{Command}
use Rattle.command.specs.declared.Command.TheVariants.{Tags, TypeBlock, Final, Step, Root, Nil, Done, Expression}
use Rattle.commands.specs.declared.phase.Phase.{Phase}
use Rattle.commands.specs.declared.phase.Phase.TheVariants.{BeforeTags, BeforeTypes, InBlock, InExpression, AfterExpression, AfterRoot, AfterDone}
use Rattle.commands.specs.declared.questions.Seen.{Seen}

-- Where a file stands, in order: before TAGS, before the first TYPE, in a block by states, in an expression, after its 3F, after a ROOT, after
-- DONE.
abbrev pub rank : Phase → ℕ
rank BeforeTags = 0
rank BeforeTypes = 1
rank InBlock = 2
rank InExpression = 3
rank AfterExpression = 4
rank AfterRoot = 5
rank AfterDone = 6

abbrev pub same_phase : Phase → Phase → Bool
same_phase p q = eqb (rank p) (rank q)

-- What is seen (`Seen`): the phase; the numbers of tags, types, roots and steps so far; of the block that the file is in, its state count and its
-- accepting states as a set; and whether that block has the command's STEP or NIL already, or the file the command's ROOT.

-- in a type's block, by states or after an expression
abbrev pub in_type_block : Phase → Bool
in_type_block p = same_phase p InBlock || same_phase p AfterExpression

-- "Does it stand in its order?" "TAGS, one or more blocks of a TYPE with FINAL and STEP in any order, ROOT, DONE." "A TYPE with state count 0 is
-- followed by an expression in place of FINAL and STEP." "[..] one of these outside, gets 3." "ROOT may be given one to eight times": after a ROOT
-- another may stand. "Command 15 NIL in a type's block, after any 3F".
abbrev pub in_order : Seen → Command → Bool
in_order s (Tags n) = same_phase s.phase BeforeTags
in_order s (TypeBlock g k) = same_phase s.phase BeforeTypes || in_type_block s.phase
in_order s (Final q) = same_phase s.phase InBlock
in_order s (Step p j q) = same_phase s.phase InBlock
in_order s (Root a) = same_phase s.phase AfterRoot || in_type_block s.phase
in_order s Nil = in_type_block s.phase
in_order s Done = same_phase s.phase AfterRoot
in_order s (Expression x) = false

-- "Are the operands in range (count 1 to 32; tag below the count; states 1 to 32; state below its type's; STEP's type below 64; ROOT's type
-- already given)?" "A TYPE with state count 0": 0 is in range too.
abbrev pub in_range : Seen → Command → Bool
in_range s (Tags n) = leb 1 n && leb n most_tags
in_range s (TypeBlock g k) = ltb g.0 s.tags && leb k most_states
in_range s (Final q) = ltb q s.states
in_range s (Step p j q) = ltb p s.states && (ltb j.0 most_types && ltb q s.states)
in_range s (Root a) = ltb a.0 s.types
in_range s Nil = true
in_range s Done = true
in_range s (Expression x) = true

-- "Is it within 64 types and 1,024 steps?" "a ninth [ROOT] gets 5"
abbrev pub within_counts : Seen → Command → Bool
within_counts s (Tags n) = true
within_counts s (TypeBlock g k) = ltb s.types most_types
within_counts s (Final q) = true
within_counts s (Step p j q) = ltb s.steps most_steps
within_counts s (Root a) = ltb s.roots most_roots
within_counts s Nil = true
within_counts s Done = true
within_counts s (Expression x) = true

-- "Is this FINAL or STEP not yet given in its block?" "[ROOT] each another type; [..] a repeat 6" "[NIL] once [..] (else 6)"
abbrev pub not_given : Seen → Command → Bool
not_given s (Tags n) = true
not_given s (TypeBlock g k) = true
not_given s (Final q) = not (member q s.accepting.0)
not_given s (Step p j q) = not s.given
not_given s (Root a) = not s.given
not_given s Nil = not s.given
not_given s Done = true
not_given s (Expression x) = true

-- The questions in order, each with its number and whether the answer is yes. Before them comes 2: "Is it one of the six, its operands inside
-- the file?", where none stands.
abbrev pub questions : Seen → Command → List (ℕ × Bool)
questions s c = (3, in_order s c) ∷ (4, in_range s c) ∷ (5, within_counts s c) ∷ (6, not_given s c) ∷ []

-- the number of the first question that the command fails; 0 where it passes them all
abbrev pub failed : Seen → Command → ℕ
failed s c = first_no (questions s c)
