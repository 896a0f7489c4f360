-- `compared_of` meets its contract: each table is built from the ones before it. Assumes nothing.
use Rattle.comparing.proofs.Laws.Orderings.{table_room, table_order, head_long, head_at}
use Rattle.comparing.proofs.compared.compared_of.Goals as goal

pub order_of-order-requires-clause-room : goal.order_of-order-requires-clause-room
order_of-order-requires-clause-room c =
    let few = c.args.points.now.usable.few in
    let lone = c.lone_table-lone.ensures in
    table_room _ _ _ few (head_long _ _ _ few lone) (head_at _ _ _ few lone)

pub invariant_of-ordered : goal.invariant_of-ordered
invariant_of-ordered c =
    let few = c.args.points.now.usable.few in
    let lone = c.lone_table-lone.ensures in
    record { ordered = table_order _ _ _ few (head_long _ _ _ few lone) (head_at _ _ _ few lone) c.order_of-order.ensures }
