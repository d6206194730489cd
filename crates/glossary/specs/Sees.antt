-- What a visitor makes of a class name that it is shown. Assumes nothing.
use Rattle.std.specs.Prelude.{◌≡◌, ℕ, Bool, ◌&&◌, ◌||◌, List, map, vec_items, ◌==◌, nat_lt}
use Rattle.distinct.specs.Numbering.{number, known}
use Rattle.glossary.specs.Asked.{circles}
use Rattle.glossary.specs.Records.{has_at, refers_at}
use Rattle.glossary.specs.declared.asking.CircleFinder.{CircleFinder}
use Rattle.glossary.specs.declared.reaching.Reacher.{Reacher}
use Rattle.glossary.specs.declared.records.TheConstants.{CLASSES}
use Rattle.terms.specs.Nodes.{name_bytes}

abbrev pub finder_raises : CircleFinder → List ℕ → Bool
finder_raises s = circles (map name_bytes (vec_items s.classes.now.items)) (vec_items s.glossary.now.records) (name_bytes s.class.now)

pub record FinderSees (s : CircleFinder) (w : List ℕ) (t : CircleFinder) : Type 0 where
  pub asked : finder_raises t ≡ finder_raises s
  pub found : t.found ≡ (s.found || finder_raises s w)

abbrev pub reacher_raises : ℕ → Reacher → List ℕ → Bool
reacher_raises f s w =
    let cs = map name_bytes (vec_items s.classes.now.items) in
    known cs w && ((number cs w == f && nat_lt (number cs w) CLASSES) || refers_at (vec_items s.glossary.now.records) (number cs w) f)

pub record ReacherSees (s : Reacher) (w : List ℕ) (t : Reacher) : Type 0 where
  pub asked : (f : ℕ) → reacher_raises f t ≡ reacher_raises f s
  pub found : (f : ℕ) → has_at t.found f ≡ (has_at s.found f || reacher_raises f s w)
