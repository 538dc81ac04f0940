-- What the fields of an exchange stand for.
use Rattle.std.specs.Prelude.{map}
use Rattle.session_work.specs.declared.exchange.Exchange.TheInside.{Inside}
use Rattle.session_work.specs.Exchange.{AreThere, ExchangeState, operation_in}

abbrev pub exchange_of : Inside → ExchangeState
exchange_of e = record { buffers = e.replicas; operations = map (operation_in e.replicas) e.named.items }

-- each operation that is kept by its place is there
abbrev pub IsExchangeInside : Inside → Type 0
IsExchangeInside e = AreThere e.replicas e.named.items
