pub mod ChainShape
pub mod ChainMoves
pub mod ChainCalls
pub mod ChainWalks
