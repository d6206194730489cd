-- What the result of reading a whole text says. Assumes nothing.
use Rattle.std.proofs.Common.{◌≡◌, ℕ, List, Ok, Err, sym, ap, ◌∙◌}
use Rattle.terms.specs.Parse.{reading}
use Rattle.terms.specs.Term.{Spelled}
use Rattle.terms.specs.Told.{IsRead, IsRefused}
use Rattle.names.specs.declared.refusals.Refusal.{Refusal}
use Rattle.terms.proofs.Firm.{firm_stands}
use Rattle.terms.proofs.Language.{reading_sound, reading_complete}

pub is_read : (s : List ℕ) (t : Spelled) → reading s ≡ Ok t → IsRead s t
is_read s t e =
    let (r, w) = reading_sound s t e in
    record {
      exact = e;
      readable = r;
      text = w;
      only = λ u ru wu. let o = reading_complete u ru in let h : reading s ≡ Ok u = sym (ap reading wu) ∙ o in cc;
    }

pub is_refused : (s : List ℕ) (e : Refusal) → reading s ≡ Err e → IsRefused s e
is_refused s e h =
    record {
      exact = h;
      firm = firm_stands s e h;
      none = λ t r w. let o = reading_complete t r in let g : reading s ≡ Ok t = sym (ap reading w) ∙ o in cc;
    }
