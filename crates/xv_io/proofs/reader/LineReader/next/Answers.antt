use Rattle.std.proofs.Common.{◌≡◌, ◌≤◌, ◌+◌, ◌-◌, arith, subst, length, true, false, [], slice_range}
use Rattle.xv_io.specs.Reader.{Reading, GivesLine, GivesWholeLine, HasLongLine, HasNoLine, line_length}
use Rattle.xv_io.proofs.Places.{reading, newline_given, whole_given, last_given, long_left, none_left, found_inside, counted, no_newline, not_both}
use Rattle.xv_io.proofs.reader.LineReader.next.Goals as goal
use Rattle.xv_io.proofs.reader.LineReader.next.Goals.{then-end-self, else-end-self+else-not-self+else-found-eq0}

pub invariant_of-self : goal.invariant_of-self
invariant_of-self c =
    let r = c.self.inside in
    let v = c.self.invariant in
    let inside = found_inside r.piece [] r.at r.len r.given c.newline_or_len-found.result 0 r.ended c.newline_or_len-found.ensures v.ahead (omega (arith, v.fits, c.self.told)) in
    elim c.if-end-self.branch [
      | then-end-self w ↦ record { line = omega arith; behind = omega (arith, w.next-is); ahead = omega (arith, w.next-is); fits = v.fits; short = omega (arith, w.next-is); bounded = omega (arith, w.next-is) }
      | else-end-self+else-not-self+else-found-eq0 w ↦ record { line = omega arith; behind = omega (arith, w.next-is); ahead = omega (arith, w.next-is, inside, v.ahead); fits = v.fits; short = omega (arith, w.next-is); bounded = omega (arith, w.next-is) }
    ]

pub returns-clause-line : goal.returns-clause-line
returns-clause-line c = λ _.
    let r = c.self.inside in
    let v = c.self.invariant in
    let k = c.newline_or_len-found.result in
    let is = c.newline_or_len-found.ensures in
    let fits : r.len ≤ length r.piece = omega (arith, v.fits, c.self.told) in
    let line = slice_range r.piece r.start r.end in
    let new = reading (slice_range r.piece r.at (r.at + k)) (slice_range r.piece c.if-end-self.next r.len) (r.given + (c.if-end-self.next - r.at)) r.ended in
    let gives : GivesLine (reading line (slice_range r.piece r.at r.len) r.given r.ended) new = elim c.if-end-self.branch [
      | then-end-self w ↦ newline_given r.piece line r.at r.len r.given k c.if-end-self.next r.ended is v.ahead fits w.if-end-self.true c.if-found-room.false w.next-is
      | else-end-self+else-not-self+else-found-eq0 w ↦ last_given r.piece line r.at r.len r.given k c.if-end-self.next r.ended is v.ahead fits w.if-end-self.false (found_inside r.piece line r.at r.len r.given k 0 r.ended is v.ahead fits) (omega (arith, w.if-found-eq0.false)) c.if-found-room.false w.if-not-self.false w.next-is
    ] in
    subst (λ (old : Reading). GivesLine old new) c.self.view_is gives

pub returns-then-room-clause-long : goal.returns-then-room-clause-long
returns-then-room-clause-long c = λ _.
    let r = c.self.inside in
    let v = c.self.invariant in
    let line = slice_range r.piece r.start r.end in
    subst (λ (old : Reading). HasLongLine old) c.self.view_is (long_left r.piece line r.at r.len r.given c.newline_or_len-found.result 0 r.ended c.newline_or_len-found.ensures v.ahead (omega (arith, v.fits, c.self.told)) c.then-found-gt-LONGEST_LINE.either c.if-room.true)

pub returns-then-found-gt-LONGEST_LINE-clause-too_many : goal.returns-then-found-gt-LONGEST_LINE-clause-too_many
returns-then-found-gt-LONGEST_LINE-clause-too_many c = λ _.
    let r = c.self.inside in
    let v = c.self.invariant in
    let line = slice_range r.piece r.start r.end in
    subst (λ (old : Reading). HasNoLine old true) c.self.view_is (none_left r.piece line r.at r.len r.given c.newline_or_len-found.result 0 r.ended c.newline_or_len-found.ensures v.ahead (omega (arith, v.fits, c.self.told)) c.then-found-gt-LONGEST_LINE.either c.if-room.false)

pub returns-clause-whole : goal.returns-clause-whole
returns-clause-whole c = λ _.
    let r = c.self.inside in
    let v = c.self.invariant in
    let k = c.newline_or_len-found.result in
    let is = c.newline_or_len-found.ensures in
    let fits : r.len ≤ length r.piece = omega (arith, v.fits, c.self.told) in
    let line = slice_range r.piece r.start r.end in
    let new = reading (slice_range r.piece r.at (r.at + k)) (slice_range r.piece c.if-end-self.next r.len) (r.given + (c.if-end-self.next - r.at)) r.ended in
    let gives : r.ended ≡ false → GivesWholeLine (reading line (slice_range r.piece r.at r.len) r.given r.ended) new = elim c.if-end-self.branch [
      | then-end-self w ↦ λ _. whole_given r.piece line r.at r.len r.given k c.if-end-self.next r.ended is v.ahead fits w.if-end-self.true w.next-is
      | else-end-self+else-not-self+else-found-eq0 w ↦ λ open_yet. not_both r.ended w.if-not-self.false open_yet
    ] in
    subst (λ (old : Reading). old.ended ≡ false → GivesWholeLine old new) c.self.view_is gives

pub returns-clause-counts : goal.returns-clause-counts
returns-clause-counts c = λ _.
    let r = c.self.inside in
    let v = c.self.invariant in
    let next = c.if-end-self.next in
    let fits : r.len ≤ length r.piece = omega (arith, v.fits, c.self.told) in
    let inside = found_inside r.piece [] r.at r.len r.given c.newline_or_len-found.result 0 r.ended c.newline_or_len-found.ensures v.ahead fits in
    let counts : (r.given + (next - r.at)) + length (slice_range r.piece next r.len) ≡ r.given + length (slice_range r.piece r.at r.len) = elim c.if-end-self.branch [
      | then-end-self w ↦ counted r.piece r.at next r.len r.given (omega (arith, w.next-is)) (omega (arith, w.next-is, w.if-end-self.true)) fits
      | else-end-self+else-not-self+else-found-eq0 w ↦ counted r.piece r.at next r.len r.given (omega (arith, w.next-is)) (omega (arith, w.next-is, inside, v.ahead)) fits
    ] in
    subst (λ (old : Reading). (r.given + (next - r.at)) + length (slice_range r.piece next r.len) ≡ old.given + length old.ahead) c.self.view_is counts

pub returns-then-not-self-clause-waits : goal.returns-then-not-self-clause-waits
returns-then-not-self-clause-waits c = λ _.
    let r = c.self.inside in
    let v = c.self.invariant in
    subst (λ (old : Reading). line_length old.ahead ≡ length old.ahead) c.self.view_is (no_newline r.piece [] r.at r.len r.given c.newline_or_len-found.result 0 r.ended c.newline_or_len-found.ensures v.ahead (omega (arith, v.fits, c.self.told)) c.if-end-self.false)
