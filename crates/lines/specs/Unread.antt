-- What a file's lines leave unread. Assumes nothing.
use Rattle.std.specs.Prelude.{◌≡◌, ◌<◌, List, ℕ, [], ◌∷◌, ◌++◌, length, Option, Result, MatchOption, MatchResult}
use Rattle.std.specs.Borrow.{Bor}
use Rattle.lines.specs.Pieces.{pieces}
use Rattle.lines.specs.declared.walking.FileLines.{FileLines}
use Rattle.names.specs.declared.refusals.Refusal.{Refusal}
use Rattle.names.specs.declared.refusals.Refusal.TheVariants.{Unended}

-- the bytes that are still to come
abbrev pub unread : FileLines → List ℕ
unread s = s.rest.now

-- The next line, without the byte 10 that ends it, and what stands behind that; or the refusal of a last line that
-- does not end, behind which nothing stands.
abbrev pub Reads : FileLines → Option (Result (Bor (List ℕ)) Refusal) → FileLines → Type 0
Reads s r t =
    MatchOption r ((unread s ≡ []) × (unread t ≡ []))
    (λ x. MatchResult x
    (λ line. (pieces 10 (unread s) ≡ line.now ∷ pieces 10 (unread t)) × (unread s ≡ line.now ++ 10 ∷ unread t))
    (λ e. (e ≡ Unended) × (pieces 10 (unread s) ≡ unread s ∷ []) × (0 < length (unread s)) × (unread t ≡ [])))
