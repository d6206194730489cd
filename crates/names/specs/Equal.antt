-- Equal names: those with the same bytes, since zeros stand behind these. Assumes nothing.
use Rattle.std.specs.Prelude.{◌≡◌, ◌-◌, ◌&&◌, ◌++◌, length, take, replicate, nat_eq}
use Rattle.std.proofs.Common.{sym, ap, ◌∙◌}
use Rattle.std.specs.Bool.{Decides}
use Rattle.std.proofs.lemmas.Bool.Decides.{Decides-eqb, Decides-and, Decides-like}
use Rattle.std.proofs.lemmas.Slice.Eq.{bytes_eq-Decides}
use Rattle.std.specs.Str.{bytes_eq}
use Rattle.names.specs.declared.named.Name.{Name}

-- as long as each other, and the same from end to end
same_whole : (m n : Name) → take m.len m.bytes ≡ take n.len n.bytes → (m.len ≡ n.len) × (m.bytes ≡ n.bytes)
same_whole m n s =
    let long : m.len ≡ n.len = sym m.whole ∙ ap length s ∙ n.whole in
    (long, m.padded ∙ ap (λ w. w ++ replicate (16 - m.len) 0) s ∙ ap (λ k. take n.len n.bytes ++ replicate (16 - k) 0) long ∙ sym n.padded)

same_front : (m n : Name) → (m.len ≡ n.len) × (m.bytes ≡ n.bytes) → take m.len m.bytes ≡ take n.len n.bytes
same_front m n e = ap (λ k. take k m.bytes) e.0 ∙ ap (take n.len) e.1

pub tells : (m n : Name) → Decides (nat_eq m.len n.len && bytes_eq m.bytes n.bytes) (take m.len m.bytes ≡ take n.len n.bytes)
tells m n =
    Decides-like _ (same_front m n) (same_whole m n)
    (Decides-and _ _ (Decides-eqb m.len n.len) (bytes_eq-Decides m.bytes n.bytes))
