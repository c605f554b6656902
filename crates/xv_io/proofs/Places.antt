-- Parts of the piece that a reader of lines reads ahead into.
use Rattle.std.proofs.Common.{ℕ, ◌≡◌, ◌+◌, ◌-◌, ◌≤◌, ◌<◌, ◌⊎◌, suc, List, [], ◌∷◌, ◌++◌, length, take, drop, arith, sym, ◌∙◌, ap, subst, append-nil, append_assoc, length-drop, Option, Some, None, Bool, true, false, true≢false, slice_range}
use Rattle.std.proofs.lemmas.List.{take-take, take-append-le, drop-append-le, drop-drop, take_all, drop_all, length-take-le}
use Rattle.std.proofs.lemmas.Slice.{between_is, take-put_mid_below}
use Rattle.std.proofs.Math.Seq.{take-append-add}
use borrow.Rule.Slice.PartMut.{put_mid}
use Rattle.std.specs.Io.KnownBytes.{Consumes, Keeps, prepend_known}
use Rattle.xv_base.specs.Lines.{lines_within, are_too_many, whole_lines, whole_lines_after}
use Rattle.xv_io.specs.Reader.{Reading, Reads, rest, whole_left, GivesLine, GivesWholeLine, HasLongLine, HasNoLine, IsMoved, line_length}
use Rattle.xv_base.specs.Limits.{byte_limit, longest_line}
use Rattle.xv_io.proofs.Cutting.{gives_newline, whole_lines_after-newline, whole_lines-none, gives_last, begins_long, none_within, line_length-append, line_length-le-length, newline_at}

abbrev pub reading : List ℕ → List ℕ → ℕ → Bool → Reading
reading l a g e = record { line = l; ahead = a; given = g; ended = e }

pub length-ahead : (piece : List ℕ) (at len : ℕ) → at ≤ len → len ≤ length piece → length (slice_range piece at len) ≡ len - at
length-ahead piece at len h w = length-take-le (len - at) (drop at piece) (omega (arith, length-drop at piece))

pub ahead_from : (piece : List ℕ) (at k len : ℕ) → slice_range piece (at + k) len ≡ drop k (slice_range piece at len)
ahead_from piece at k len = between_is piece (at + k) len ∙ sym (drop-drop k at (take len piece)) ∙ ap (drop k) (sym (between_is piece at len))

pub line_from : (piece : List ℕ) (at k len : ℕ) → k ≤ len - at → slice_range piece at (at + k) ≡ take k (slice_range piece at len)
line_from piece at k len h =
    let same : (at + k) - at ≡ k = omega arith in
    ap (λ m. take m (drop at piece)) same ∙ sym (take-take k (len - at) (drop at piece) h)

-- ---- a piece whose bytes move to its front, and one that is read into

pub moves_front : (piece new tail : List ℕ) (start len : ℕ) → new ≡ take (len - start) (drop start piece) ++ tail → len ≤ length piece → IsMoved start len piece new
moves_front piece new tail start len e w = λ i j h.
    let s = drop start piece in
    let size : length (take (len - start) s) ≡ len - start = length-take-le (len - start) s (omega (arith, length-drop start piece)) in
    let front : take j new ≡ take j s = ap (take j) e ∙ take-append-le j (take (len - start) s) tail (omega (arith, size)) ∙ take-take j (len - start) s (omega arith) in
    let room : j - i ≡ (start + j) - (start + i) = omega arith in
    between_is new i j ∙ ap (drop i) front ∙ sym (between_is s i j) ∙ (λ k. take (room k) (drop-drop i start piece k))

-- a part of a piece that has moved
pub moved_part : (by len from to : ℕ) (old new : List ℕ) → IsMoved by len old new → by ≤ from → from ≤ to → to ≤ len → slice_range new (from - by) (to - by) ≡ slice_range old from to
moved_part by len from to old new m h w l =
    let low : by + (from - by) ≡ from = omega arith in
    let high : by + (to - by) ≡ to = omega arith in
    m (from - by) (to - by) (omega arith) ∙ (λ k. slice_range old (low k) (high k))

-- a part in front of the bytes that are read
pub part_before : (piece into : List ℕ) (len room from to : ℕ) → to ≤ len → len ≤ length piece → slice_range (put_mid len room piece into) from to ≡ slice_range piece from to
part_before piece into len room from to h w = between_is _ from to ∙ ap (drop from) (take-put_mid_below len room piece into to h w) ∙ sym (between_is piece from to)

-- what is ahead, with the bytes that are read
pub ahead_read : (piece into : List ℕ) (len room at n : ℕ) → at ≤ len → len ≤ length piece → n ≤ length into → slice_range (put_mid len room piece into) at (len + n) ≡ slice_range piece at len ++ take n into
ahead_read piece into len room at n h w m =
    let front = take len piece in
    let size : length front ≡ len = length-take-le len piece w in
    let tail = drop room (drop len piece) in
    let taken : take (len + n) (front ++ (into ++ tail)) ≡ front ++ take n into = ap (λ k. take (k + n) (front ++ (into ++ tail))) (sym size) ∙ take-append-add front (into ++ tail) n ∙ ap (λ x. front ++ x) (take-append-le n into tail m) in
    between_is (put_mid len room piece into) at (len + n) ∙ ap (drop at) taken ∙ drop-append-le at front (take n into) (omega (arith, size)) ∙ ap (λ x. x ++ take n into) (sym (between_is piece at len))

-- both together: what has moved, and then bytes that are read
pub part_kept : (piece new into : List ℕ) (by len room from to : ℕ) → IsMoved by len piece new → by ≤ from → from ≤ to → to ≤ len → len - by ≤ length new → slice_range (put_mid (len - by) room new into) (from - by) (to - by) ≡ slice_range piece from to
part_kept piece new into by len room from to m h w l f = part_before new into (len - by) room (from - by) (to - by) (omega arith) f ∙ moved_part by len from to piece new m h w l

pub ahead_grown : (piece new into : List ℕ) (by len room at n : ℕ) → IsMoved by len piece new → by ≤ at → at ≤ len → len - by ≤ length new → n ≤ length into → slice_range (put_mid (len - by) room new into) (at - by) ((len - by) + n) ≡ slice_range piece at len ++ take n into
ahead_grown piece new into by len room at n m h l f w =
    ahead_read new into (len - by) room (at - by) n (omega arith) f w ∙ ap (λ x. x ++ take n into) (moved_part by len at len piece new m h l (omega arith))

pub rest_kept : (ahead bs : List ℕ) (old new : Option (List ℕ)) → Consumes old new bs → Keeps (prepend_known ahead old) (prepend_known (ahead ++ bs) new)
rest_kept ahead bs None new h = tt
rest_kept ahead bs (Some xs) None h = absurd h
rest_kept ahead bs (Some xs) (Some ys) h = append_assoc ahead bs ys ∙ ap (λ x. ahead ++ x) (sym h)

-- what was read was ahead or left before
pub reads_keep : (old new : Reading) (left left' : Option (List ℕ)) → Reads old left new left' → Keeps (rest old left) (rest new left')
reads_keep old new left left' r = subst (λ bs. Keeps (prepend_known old.ahead left) (prepend_known bs left')) (sym r.ahead) (rest_kept old.ahead r.read left left' r.consumed)

-- ---- what is given out of a piece

pub not_both : {X : Type 0} (b : Bool) → b ≡ true → b ≡ false → X
not_both b t f = absurd (true≢false (sym t ∙ f))

-- the bytes that are given are no more ahead
pub counted : (piece : List ℕ) (at next len given : ℕ) → at ≤ next → next ≤ len → len ≤ length piece → (given + (next - at)) + length (slice_range piece next len) ≡ given + length (slice_range piece at len)
counted piece at next len given h w fits = omega (arith, length-ahead piece next len w fits, length-ahead piece at len (omega arith) fits)

-- where no newline is ahead and no more bytes than a line has, no whole line is ahead
pub none_whole : (r : Reading) → line_length r.ahead ≡ length r.ahead → length r.ahead ≤ longest_line → whole_left r [] ≡ []
none_whole r e h = ap whole_lines (append-nil r.ahead) ∙ whole_lines-none r.ahead e h

module _ (piece line : List ℕ) (at len given k next : ℕ) (ended : Bool) (is : k ≡ line_length (slice_range piece at len)) (within : at ≤ len) (fits : len ≤ length piece) where
  pub newline_given : at + k < len → k < byte_limit - given → next ≡ at + k + 1 → GivesLine (reading line (slice_range piece at len) given ended) (reading (slice_range piece at (at + k)) (slice_range piece next len) (given + (next - at)) ended)
  newline_given here w e = λ left _.
      let a = slice_range piece at len in
      let size : length a ≡ len - at = length-ahead piece at len within fits in
      let short : k < length a = omega (arith, size) in
      let found : drop k a ≡ 10 ∷ drop (suc k) a = subst (λ n. drop n a ≡ 10 ∷ drop (suc n) a) (sym is) (newline_at a (omega (arith, is))) in
      let far : k ≤ line_length (a ++ left) = omega (arith, is, line_length-append a left) in
      let g = gives_newline (byte_limit - given) k (a ++ left) (drop (suc k) a ++ left) far (drop-append-le k a left (omega arith) ∙ ap (λ x. x ++ left) found) w in
      let took : take k (a ++ left) ≡ slice_range piece at (at + k) = take-append-le k a left (omega arith) ∙ sym (line_from piece at k len (omega arith)) in
      let room : (byte_limit - given) - suc k ≡ byte_limit - (given + (next - at)) = omega (arith, e) in
      let place : at + suc k ≡ next = omega (arith, e) in
      let behind : drop (suc k) a ≡ slice_range piece next len = sym (ahead_from piece at (suc k) len) ∙ ap (λ n. slice_range piece n len) place in
      (g.0 ∙ (λ i. took i ∷ lines_within (room i) (behind i ++ left)), g.1 ∙ (λ i. are_too_many (room i) (behind i ++ left)))

  pub whole_given : at + k < len → next ≡ at + k + 1 → GivesWholeLine (reading line (slice_range piece at len) given ended) (reading (slice_range piece at (at + k)) (slice_range piece next len) (given + (next - at)) ended)
  whole_given here e = λ more.
      let a = slice_range piece at len in
      let size : length a ≡ len - at = length-ahead piece at len within fits in
      let found : drop k a ≡ 10 ∷ drop (suc k) a = subst (λ n. drop n a ≡ 10 ∷ drop (suc n) a) (sym is) (newline_at a (omega (arith, is, size))) in
      let far : k ≤ line_length (a ++ more) = omega (arith, is, line_length-append a more) in
      let split = whole_lines_after-newline k (a ++ more) (drop (suc k) a ++ more) far (drop-append-le k a more (omega (arith, size)) ∙ ap (λ x. x ++ more) found) in
      let took : take k (a ++ more) ≡ slice_range piece at (at + k) = take-append-le k a more (omega (arith, size)) ∙ sym (line_from piece at k len (omega arith)) in
      let place : at + suc k ≡ next = omega (arith, e) in
      let behind : drop (suc k) a ≡ slice_range piece next len = sym (ahead_from piece at (suc k) len) ∙ ap (λ n. slice_range piece n len) place in
      split ∙ (λ i. took i ∷ whole_lines_after [] (behind i ++ more))

  pub no_newline : len ≤ at + k → line_length (slice_range piece at len) ≡ length (slice_range piece at len)
  no_newline h = omega (arith, is, line_length-le-length (slice_range piece at len), length-ahead piece at len within fits)

  pub last_given : len ≤ at + k → k ≤ len - at → 0 < k → k < byte_limit - given → ended ≡ true → next ≡ at + k → GivesLine (reading line (slice_range piece at len) given ended) (reading (slice_range piece at (at + k)) (slice_range piece next len) (given + (next - at)) ended)
  last_given here inside some w over e = λ left meets.
      let a = slice_range piece at len in
      let size : length a ≡ len - at = length-ahead piece at len within fits in
      let whole : k ≡ length a = omega (arith, size) in
      let g = gives_last (byte_limit - given) a (omega (arith, is, size)) (omega (arith, size)) (omega (arith, size)) in
      let before : a ++ left ≡ a = ap (λ x. a ++ x) (meets over) ∙ append-nil a in
      let took : a ≡ slice_range piece at (at + k) = sym (line_from piece at k len inside ∙ take_all k a (omega (arith, size))) in
      let room : (byte_limit - given) - length a ≡ byte_limit - (given + (next - at)) = omega (arith, e, size) in
      let behind : [] ≡ slice_range piece next len ++ left = sym (ap (λ n. slice_range piece n len ++ left) e ∙ ap (λ x. x ++ left) (ahead_from piece at k len ∙ drop_all k a (omega (arith, size))) ∙ meets over) in
      (ap (λ x. lines_within (byte_limit - given) x) before ∙ g.0 ∙ (λ i. took i ∷ lines_within (room i) (behind i)), ap (λ x. are_too_many (byte_limit - given) x) before ∙ g.1 ∙ (λ i. are_too_many (room i) (behind i)))

  pub found_inside : k ≤ len - at
  found_inside = omega (arith, is, line_length-le-length (slice_range piece at len), length-ahead piece at len within fits)

  pub long_left : (longest_line < k) ⊎ ((k ≤ longest_line) × (byte_limit - given ≤ k)) → longest_line < byte_limit - given → HasLongLine (reading line (slice_range piece at len) given ended)
  long_left h w = λ left _. begins_long (byte_limit - given) (slice_range piece at len) left (omega (arith, is, h)) w

  pub none_left : (longest_line < k) ⊎ ((k ≤ longest_line) × (byte_limit - given ≤ k)) → byte_limit - given ≤ longest_line → HasNoLine (reading line (slice_range piece at len) given ended) true
  none_left h w = λ left _. none_within (byte_limit - given) (slice_range piece at len) left (omega (arith, is, h)) w
