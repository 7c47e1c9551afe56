pub mod CounterText
