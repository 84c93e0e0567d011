-- Sum: how far a FIR's sum is off the exact one. Figure: 02's Q-5, over the run step. Sharp: a record whose answer is farther off than half the figure.
pub mod Sum
pub mod Figure
pub mod Sharp
