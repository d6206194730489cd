-- The law over histories: whatever was called on a sheet since it was new, it holds the accepted lines. Assumes nothing.
use Rattle.std.specs.Prelude.{◌≡◌, ℕ, cond, List, [], ◌∷◌, map, is_ok, Some, Result}
use Rattle.names.specs.declared.refusals.Fault.{Fault}
use Rattle.sheet.specs.Content.{Content, empty}
use Rattle.sheet.specs.Outcome.{glossing, stating, tying, Told}
use Rattle.tables.specs.Entry.{Front}
use Rattle.terms.specs.Term.{Term}

-- a call that gives a sheet a line, with its fields
pub data Call : Type 0 where
  gloss : List ℕ → List ℕ → Call
  state : List ℕ → List ℕ → Call
  tie : List ℕ → List ℕ → List ℕ → Call

abbrev pub outcome : Content → Call → Result Content Fault
outcome k (gloss class term) = glossing k class term
outcome k (state item term) = stating k item term
outcome k (tie link from to) = tying k link from to

-- a call and its answer
pub record Event : Type 0 where
  pub call : Call
  pub answer : Result (Unit {0}) Fault

-- These events, in this order, lead from one content to another, each call doing what it promises.
pub data Leads : Content → List Event → Content → Type 0 where
  nothing : {k : Content} → Leads k [] k
  next : {k j l : Content} {e : Event} {es : List Event} → Told (outcome k e.call) e.answer k j → Leads j es l → Leads k (e ∷ es) l

-- the events whose lines were accepted
abbrev pub accepted : List Event → List Event
accepted [] = []
accepted (e ∷ es) = cond (is_ok e.answer) (e ∷ accepted es) (accepted es)

-- From a new sheet on: what is held is what the accepted lines alone give, entered in order. So a refused line leaves no
-- trace, and each later name and line has the number that it would have had without it.
abbrev pub Faithful : Type 0
Faithful = (es : List Event) (k : Content) → Leads empty es k → Leads empty (accepted es) k

-- The same calls come to the same answers and the same content: a register read twice gives the same numbers.
abbrev pub Repeatable : Type 0
Repeatable =
    (es fs : List Event) (k j : Content) → Leads empty es k → Leads empty fs j → map (λ e. e.call) es ≡ map (λ e. e.call) fs → (es ≡ fs) × (k ≡ j)

-- What k had is in j under the same numbers: names, terms and lines are only put behind, and a gloss stays.
pub record Keeps (k j : Content) : Type 0 where
  pub classes : Front k.words.classes j.words.classes
  pub links : Front k.words.links j.words.links
  pub items : Front k.words.items j.words.items
  pub terms : Front k.words.terms j.words.terms
  pub lines : Front k.lines j.lines
  pub glosses : (c : ℕ) (t : Term ℕ) → k.gloss c ≡ Some t → j.gloss c ≡ Some t

-- Whatever is called, what was accepted keeps its number.
abbrev pub Lasting : Type 0
Lasting = (es : List Event) (k j : Content) → Leads k es j → Keeps k j
