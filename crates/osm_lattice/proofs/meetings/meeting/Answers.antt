use Rattle.osm_lattice.specs.Meeting.{IsOnSegment}
use Rattle.osm_lattice.proofs.MeetingBounds.{on_segment_in}
use Rattle.osm_lattice.proofs.CrossingMeets.{on_first, on_second, only_point}
use Rattle.osm_lattice.proofs.meetings.meeting.Goals as goal

first_is : (c : goal.After-y_at) → IsOnSegment c.args.s c.x_at.result c.y_at.result
first_is c = on_first c.args.s c.x_at.result c.y_at.result c.share_of-at.result.den c.share_of-at.result.above c.share_of-at.result.is_share.0 c.share_of-at.result.is_share.1 c.x_at.ensures.value c.y_at.ensures.value

second_is : (c : goal.After-y_at) → IsOnSegment c.args.t c.x_at.result c.y_at.result
second_is c = on_second c.args.s c.args.t c.x_at.result c.y_at.result c.share_of-at.result.den c.share_of-at.result.above c.requires c.share_of-at.ensures.above c.share_of-at.ensures.den c.x_at.ensures.value c.y_at.ensures.value

pub returns-clause-first : goal.returns-clause-first
returns-clause-first c = first_is c

pub returns-clause-second : goal.returns-clause-second
returns-clause-second c = second_is c

pub returns-clause-alone : goal.returns-clause-alone
returns-clause-alone c = λ x y on_s on_t. only_point c.args.s c.args.t x y c.x_at.result c.y_at.result c.requires on_s on_t (first_is c) (second_is c)

pub returns-clause-x_in : goal.returns-clause-x_in
returns-clause-x_in c = (on_segment_in c.args.s c.x_at.result c.y_at.result (first_is c)).0

pub returns-clause-y_in : goal.returns-clause-y_in
returns-clause-y_in c = (on_segment_in c.args.s c.x_at.result c.y_at.result (first_is c)).1
