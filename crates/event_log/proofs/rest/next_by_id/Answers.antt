use Rattle.event_log.proofs.ListedLemmas.{takes_error, takes_info}
use Rattle.event_log.proofs.rest.next_by_id.Goals as goal

pub returns-then-is_error_first : goal.returns-then-is_error_first
returns-then-is_error_first c high rises more =
    takes_error high _ _ _ _ _ _ _ c.first_id.ensures c.first_id-2.ensures c.is_error_first.ensures c.if-is_error_first.true
    c.next.ensures.entry c.next.ensures.after rises more

pub returns-else-is_error_first : goal.returns-else-is_error_first
returns-else-is_error_first c high rises more =
    takes_info high _ _ _ _ _ _ _ c.first_id.ensures c.first_id-2.ensures c.is_error_first.ensures c.if-is_error_first.false
    c.next-else-is_error_first.ensures.entry c.next-else-is_error_first.ensures.after rises more
