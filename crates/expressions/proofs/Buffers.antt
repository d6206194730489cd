-- Bytes put into a buffer, one piece behind another. Assumes nothing.
use Rattle.std.proofs.Common.{◌≡◌, ℕ, ◌+◌, ◌≤◌, List, ◌++◌, length, take, drop, sym, ap, subst, ◌∙◌, append_assoc, add_assoc, arith}
use Rattle.std.proofs.lemmas.List.{length-append, drop-drop, drop_at}
use Rattle.std.proofs.lemmas.Grind.{common_steps}
use Rattle.expressions.specs.Writer.{over, Room, Added}
use Rattle.expressions.specs.declared.writers.Writer.{Writer}

module _ (d : List ℕ) (at : ℕ) (s : List ℕ) (fits : at + length s ≤ length d) where
  pub length_over : length (over d at s) ≡ length d
  length_over = grind (arith, common_steps)

  -- a second piece behind the first
  pub over_over : (t : List ℕ) → over (over d at s) (at + length s) t ≡ over d at (s ++ t)
  over_over t =
      let n = at + length s in
      let long : length (take at d ++ s) ≡ n = grind (arith, common_steps) in
      let front : take n (over d at s) ≡ take at d ++ s = grind (arith, common_steps) in
      let behind : drop n (over d at s) ≡ drop n d = rw (← append_assoc) (drop_at (take at d ++ s) (drop n d) n long) in
      let back : drop (n + length t) (over d at s) ≡ drop (n + length t) d = sym (drop-drop (length t) n (over d at s)) ∙ ap (drop (length t)) behind ∙ drop-drop (length t) n d in
      rw (front, back) (simp (append_assoc, length-append, add_assoc))

-- s and then t

pub room_first : (w : Writer) (r s t : List ℕ) → Room w r → r ≡ s ++ t → Room w s
room_first w r s t h e = record { fits = omega (arith, ap length e, length-append s t) }

pub room_then : (w v : Writer) (r s t : List ℕ) → Room w r → Added w s v → r ≡ s ++ t → Room v t
room_then w v r s t h a e = record { fits = omega (arith, ap length e, length-append s t, ap length a.text ∙ length_over w.out.now w.at s a.fits) }

pub ruleset rooms = (room_first, room_then)

pub added_then : {w v u : Writer} {s t : List ℕ} → Added w s v → Added v t u → Added w (s ++ t) u
added_then {w = w} {v = v} {s = s} {t = t} a b =
    record {
      fits = omega (arith, length-append s t, ap length a.text ∙ length_over w.out.now w.at s a.fits);
      same_buffer = b.same_buffer ∙ a.same_buffer;
      end = omega (arith, length-append s t);
      text = b.text ∙ ap (λ d. over d v.at t) a.text ∙ ap (λ n. over (over w.out.now w.at s) n t) a.end ∙ over_over w.out.now w.at s a.fits t;
    }

pub added_as : {w u : Writer} {s t : List ℕ} → s ≡ t → Added w t u → Added w s u
added_as {w = w} {u = u} e a = subst (λ r. Added w r u) (sym e) a
